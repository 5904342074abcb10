use Rattle.pb_proof.proofs.Common.{◌∙◌, ◌≡◌, ap, subst, true, SumState, is_large, Refuse, rup_automaton, RupState}
use Rattle.pb_proof.proofs.lemmas.Rup.{give_order, tail_order, give_refused, give_admits}
use Rattle.pb_proof.specs.contracts.line.rup.RupMachine.{the_view}
use Rattle.pb_proof.proofs.line.rup.RupMachine.give.Goals as goal

pub invariant_of-self : goal.invariant_of-self
invariant_of-self c =
    give_order (the_view c.self.inside) c.self.invariant c.args.byte c.push.new.self (rw (← c.self.view_is) at c.requires) c.in-Go.ensures.pushes c.in-Go.ensures.state

pub invariant_of-self-in-Event : goal.invariant_of-self-in-Event
invariant_of-self-in-Event c =
    rw c.linear_of.ensures (tail_order (the_view c.self.inside) c.args.byte c.in-Event.event c.push.new.self c.in-Event.ensures.pushes c.in-Event.ensures.state)

same_view : (s : RupState) (inner : SumState) → inner ≡ s.sums → record s { sums = inner } ≡ s
same_view s inner e = ap (λ (i : SumState). let t : RupState = record s { sums = i } in t) e

pub returns-in-Large : goal.returns-in-Large
returns-in-Large c =
    let s : RupState = the_view c.self.inside in
    let p = c.in-Large.ensures.pushes in
    let k = give_refused s c.self.invariant c.args.byte (rw (← c.self.view_is) at c.requires) p.0 in
    subst (λ (x : RupState). (rup_automaton.step x c.args.byte ≡ Refuse) × (is_large rup_automaton x c.args.byte ≡ true) × (record s { sums = c.push.new.self } ≡ x)) c.self.view_is (k.0, k.1 ∙ p.1, same_view s c.push.new.self p.2)

pub returns-in-Memory : goal.returns-in-Memory
returns-in-Memory c =
    let s : RupState = the_view c.self.inside in
    let p = c.in-Memory.ensures.pushes in
    let k = give_admits s c.self.invariant c.args.byte (rw (← c.self.view_is) at c.requires) p.0 p.1 in
    rw (← c.self.view_is) (k.0, k.1, same_view s c.push.new.self p.2)
