use Rattle.pb_sums.proofs.Common.{ℕ, ℤ, ◌||◌, ◌≡◌, ◌⊎◌, inl, inr, refl, true, false, IsTrue, Relation, SumEvent, Action, Phase, To, Begin, Add, EndSum}
use Rattle.pb_sums.proofs.{Common.EndLinear, Common.arith, Common.adds, Common.is_more, Common.End, Common.SumState, lemmas.machine.Pushes.wants}
use Rattle.pb_sums.{proofs.lemmas.machine.Pushes.IsTaken, specs.contracts.machine.SumMachine.the_view, specs.engine.State.ends, specs.engine.State.outcome}
use Rattle.pb_sums.proofs.machine.SumMachine.take.Goals as goal

continues : (m : Action) → ((p : Phase) × (m ≡ To p)) ⊎ ((p : Phase) × (b : ℕ) × (m ≡ Begin p b)) ⊎ ((p : Phase) × (b : ℕ) × (m ≡ Add p b)) → IsTaken m × (ends m ≡ false)
continues m h = grind arith

pub returns-else-advance : goal.returns-else-advance
returns-else-advance c = rw (← c.self.view_is) (
    let k = continues c.transition-action.result c.in-To.is in
    let h = rw (← c.self.view_is, c.if-advance.false) at c.advance.ensures in
    let f = wants c.self.inside.spaces c.self.inside.part c.self.inside.limit c.self.inside.terms c.self.inside.name c.self.inside.phase c.args.byte
    c.is_numeric.result c.kind-kind.result c.transition-action.result c.is_numeric.ensures c.kind-kind.ensures.kind c.transition-action.ensures.transition k.0 (h.0 k.1) in
    (f.0, f.1, h.1)
    )

-- an action that ends the text, and was left, may allocate
asked : (s : SumState) (m : Action) → (m ≡ EndSum) ⊎ ((r : Relation) × (z : ℤ) × (m ≡ EndLinear r z)) → IsTrue (is_more s.work.phase) ⊎ ((e : SumEvent) (next : SumState) → outcome s m ≡ End e next → ⊥)
    → IsTaken m × ((adds m || is_more s.work.phase) ≡ true)
asked s m (inl e) (inl more) = rw e (tt, more)
asked s m (inr (r, z, e)) (inl more) = rw e (tt, more)
asked s m (inl e) (inr none) = absurd (rw e at none _ _ refl)
asked s m (inr (r, z, e)) (inr none) = absurd (rw e at none _ _ refl)

pub returns-in-None : goal.returns-in-None
returns-in-None c = rw (← c.self.view_is) (
    let h = rw (← c.self.view_is, c.in-None.is) at c.end_by.ensures in
    let k = asked (the_view c.self.inside) c.transition-action.result c.in-EndSum.is h.0 in
    let f = wants c.self.inside.spaces c.self.inside.part c.self.inside.limit c.self.inside.terms c.self.inside.name c.self.inside.phase c.args.byte
    c.is_numeric.result c.kind-kind.result c.transition-action.result c.is_numeric.ensures c.kind-kind.ensures.kind c.transition-action.ensures.transition k.0 k.1 in
    (f.0, f.1, h.1)
    )
