use Rattle.pb_opb.proofs.Common.{the_view, ◌∙◌, ◌≡◌, ap, false, subst, SumState, is_large, Refuse, opb, OpbState, arith}
use Rattle.pb_opb.proofs.lemmas.machine.Pushed.{give_order, end_order, end_step, give_refused, give_admits}
use Rattle.pb_opb.proofs.machine.OpbMachine.give.Goals as goal

pub invariant_of-self : goal.invariant_of-self
invariant_of-self c =
    give_order (the_view c.self.inside) c.self.invariant c.args.byte c.args.phase c.push.new.self (rw (← c.self.view_is) at c.requires) c.in-Go.ensures.pushes c.in-Go.ensures.state

pub invariant_of-self-in-Event : goal.invariant_of-self-in-Event
invariant_of-self-in-Event c =
    rw (c.phase_owing-self-inside.ensures, c.remaining_after-self-inside.ensures)
    (end_order (the_view c.self.inside) c.self.invariant c.args.byte c.args.phase c.push.new.self c.restart.new.self c.in-Event.event (rw (← c.self.view_is) at c.requires) c.in-Event.ensures.pushes c.restart.ensures.begins c.restart.ensures.state)

pub returns-in-Event : goal.returns-in-Event
returns-in-Event c =
    rw (← c.self.view_is, c.statement_of.ensures, c.phase_owing-self-inside.ensures, c.remaining_after-self-inside.ensures)
    (end_step (the_view c.self.inside) c.self.invariant c.args.byte c.args.phase c.push.new.self c.restart.new.self c.in-Event.event (rw (← c.self.view_is) at c.requires) c.in-Event.ensures.pushes c.restart.ensures.begins)

same_view : (s : OpbState) (inner : SumState) → inner ≡ s.sums → record s { sums = inner } ≡ s
same_view s inner e = ap (λ (i : SumState). let t : OpbState = record s { sums = i } in t) e

pub returns-in-No : goal.returns-in-No
returns-in-No c =
    let p = c.in-No.ensures.pushes in
    let k = give_refused (the_view c.self.inside) c.self.invariant c.args.byte c.args.phase (rw (← c.self.view_is) at c.requires) p.0 in
    subst (λ (x : OpbState). (opb.step x c.args.byte ≡ Refuse) × (is_large opb x c.args.byte ≡ false) × (record (the_view c.self.inside) { sums = c.push.new.self } ≡ x)) c.self.view_is (k.0, k.1 ∙ p.1, same_view (the_view c.self.inside) c.push.new.self p.2)

pub returns-in-Large : goal.returns-in-Large
returns-in-Large c = grind (arith, c.in-Large.ensures.pushes, give_refused, c.self.view_is, c.requires, same_view)

pub returns-in-Memory : goal.returns-in-Memory
returns-in-Memory c =
    let p = c.in-Memory.ensures.pushes in
    let k = give_admits (the_view c.self.inside) c.self.invariant c.args.byte c.args.phase (rw (← c.self.view_is) at c.requires) p.0 p.1 in
    rw (← c.self.view_is) (k.0, k.1, same_view (the_view c.self.inside) c.push.new.self p.2)
