use Rattle.pb_opb.proofs.Common.{the_view, ℕ, ◌∙◌, ◌≡◌, ap, List, subst, sym, BeginTail, Keep, To, PhaseFits, OpbState}
use Rattle.pb_opb.proofs.lemmas.machine.Pushed.{planned_at, to_order, tail_admits, keep_admits}
use Rattle.pb_text.proofs.lemmas.text.Results.{unchanged}
use Rattle.pb_opb.proofs.machine.OpbMachine.take.Goals as goal

pub invariant_of-self : goal.invariant_of-self
invariant_of-self c =
    let s : OpbState = the_view c.self.inside in
    to_order s c.self.invariant c.args.byte c.in-To.phase (planned_at c.top.result s.top s.phase c.args.byte (To c.in-To.phase) c.top.ensures.value c.in-To.ensures.transition)
    (subst (λ (n : ℕ). PhaseFits n c.in-To.phase) c.top.ensures.value c.in-To.ensures.fits)

-- a text that could not grow is unchanged
same_text : (s : OpbState) (text : List ℕ) → text ≡ s.text → record s { text = text } ≡ s
same_text s text e = ap (λ (t : List ℕ). let x : OpbState = record s { text = t } in x) e

pub returns-then-is_err : goal.returns-then-is_err
returns-then-is_err c =
    let s : OpbState = the_view c.self.inside in
    let k = tail_admits s c.self.invariant c.args.byte c.in-BeginTail.constraints c.in-BeginTail.first (planned_at c.top.result s.top s.phase c.args.byte (BeginTail c.in-BeginTail.constraints c.in-BeginTail.first) c.top.ensures.value c.in-BeginTail.ensures.transition) in
    rw (← c.self.view_is) (k.0, k.1, same_text s c.push.new.self (unchanged c.push.result _ _ _ c.push.ensures (sym c.is_err.ensures.value ∙ c.if-is_err.true)))

pub returns-then-is_err-2 : goal.returns-then-is_err-2
returns-then-is_err-2 c =
    let s : OpbState = the_view c.self.inside in
    let k = keep_admits s c.self.invariant c.args.byte c.in-Keep.next (planned_at c.top.result s.top s.phase c.args.byte (Keep c.in-Keep.next) c.top.ensures.value c.in-Keep.ensures.transition) in
    rw (← c.self.view_is) (k.0, k.1, same_text s c.push-in-Keep.new.self (unchanged c.push-in-Keep.result _ _ _ c.push-in-Keep.ensures (sym c.is_err-in-Keep.ensures.value ∙ c.if-is_err-2.true)))
