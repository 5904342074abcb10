use Rattle.pb_opb.proofs.{Common.subst, Common.IsState, Common.opb, Common.OpbState, lemmas.machine.Alive.is_state}
use Rattle.pb_opb.proofs.machine.OpbMachineMachine.is_done.Goals as goal

pub returns-clause-state : goal.returns-clause-state
returns-clause-state c = subst (λ (s : OpbState). IsState opb s) c.self.view_is (is_state _ c.self.invariant)
