use Rattle.pb_opb.proofs.Common.{the_view, ℕ, subst, To, PhaseFits, OpbState}
use Rattle.pb_opb.proofs.lemmas.machine.Pushed.{planned_at, to_order}
use Rattle.pb_opb.proofs.machine.OpbMachine.advance.Goals as goal

pub invariant_of-self : goal.invariant_of-self
invariant_of-self c =
    let s : OpbState = the_view c.self.inside in
    to_order s c.self.invariant c.args.byte c.in-To.next (planned_at c.top.result s.top s.phase c.args.byte (To c.in-To.next) c.top.ensures.value c.in-To.ensures.transition)
    (subst (λ (n : ℕ). PhaseFits n c.in-To.next) c.top.ensures.value c.in-To.ensures.fits)
