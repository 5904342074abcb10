use Rattle.pb_proof.proofs.{Common.sym, lemmas.machine.States.to_order, lemmas.machine.States.begin_order}
use Rattle.pb_proof.specs.contracts.machine.ProofMachine.{the_view}
use Rattle.pb_proof.proofs.machine.ProofMachineMachine.try_continue.Goals as goal

pub invariant_of-self : goal.invariant_of-self
invariant_of-self c = to_order (the_view c.self.inside) c.self.invariant c.args.byte c.in-To.phase (sym c.in-To.ensures)

pub invariant_of-self-in-Begin : goal.invariant_of-self-in-Begin
invariant_of-self-in-Begin c = rw c.start_line.ensures (begin_order (the_view c.self.inside) c.self.invariant c.args.byte c.in-Begin.kind)
