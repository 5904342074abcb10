use Rattle.pb_proof.proofs.Common.{◌≡◌, refl, Some, subst, sym, LineMachine, IsInOrder, ProofState, proof_transition as transition, ProofAction as Action}
use Rattle.pb_proof.proofs.lemmas.machine.States.{give_order, give_admits, known}
use Rattle.pb_proof.specs.contracts.machine.ProofMachine.{the_view}
use Rattle.pb_proof.proofs.machine.ProofMachine.give.Goals as goal

pub invariant_of-self-in-Go : goal.invariant_of-self-in-Go
invariant_of-self-in-Go c =
    let s : ProofState = the_view c.self.inside in
    let planned : transition s.phase c.args.byte ≡ Action.Give c.args.kind = rw (← c.self.view_is) at c.requires in
    let order = give_order s c.self.invariant c.args.byte c.args.kind planned c.in-Some.line c.push.new.self c.in-Some.is c.in-Go.ensures.pushes c.in-Go.ensures.state in
    subst (λ p. IsInOrder (record { limit = s.limit; top = s.top; phase = p; line = Some c.push.new.self }))
    (sym (known s c.self.invariant c.args.byte (Action.Give c.args.kind) planned)) order

same_view : (s : ProofState) (old new : LineMachine) → s.line ≡ Some old → new ≡ old → record s { line = Some new } ≡ s
same_view s old new e h = rw (h, ← e) refl

pub returns-in-Memory : goal.returns-in-Memory
returns-in-Memory c =
    let s : ProofState = the_view c.self.inside in
    let planned : transition s.phase c.args.byte ≡ Action.Give c.args.kind = rw (← c.self.view_is) at c.requires in
    let p = c.in-Memory.ensures.pushes in
    let k = give_admits s c.self.invariant c.args.byte c.args.kind planned c.in-Some.line c.in-Some.is p.0 p.1 in
    rw (← c.self.view_is) (k.0, k.1, same_view s c.in-Some.line c.push.new.self c.in-Some.is p.2)
