use Rattle.pb_normal.proofs.Common.{ℕ, ◌+◌, ◌/◌, [], arith, drop, length, rules, take, take-append-drop, take_rest, Adds}
use Rattle.pb_normal.proofs.collect.+added_up.Goals.{In_ok-both}
use Rattle.pb_normal.proofs.lemmas.terms.Totals.{size-Adds, Adds-halves, total-halves}
use Rattle.pb_normal.proofs.collect.+added_up.Goals as goal

pub added_up-requires : goal.added_up-requires
added_up-requires t c = (search rules, omega (arith, total-halves c.args.raw.now (length c.args.raw.now / 2), c.requires))

pub added_up-requires-2 : goal.added_up-requires-2
added_up-requires-2 t c = (search rules, rw take_rest (omega (arith, total-halves c.args.raw.now (length c.args.raw.now / 2), c.requires)))

pub merged-requires-clause-left_size : goal.merged-requires-clause-left_size
merged-requires-clause-left_size t c =
    rw c.wide-left.ensures.same (omega (arith, size-Adds _ _ _ _ c.in_ok-left.ensures.adds, total-halves c.args.raw.now (length c.args.raw.now / 2), c.requires))

pub merged-requires-clause-right_size : goal.merged-requires-clause-right_size
merged-requires-clause-right_size t c =
    rw c.wide-right.ensures.same (omega (arith, size-Adds _ _ _ _ (rw take_rest at c.in_ok-right.ensures.adds), total-halves c.args.raw.now (length c.args.raw.now / 2), c.requires))

-- all that was collected, as one addition
whole : {t : ℕ} → (c : In_ok-both t) → Adds c.args.raw.now [] c.in_ok-both.both.items (c.in_ok-left.left_gone + c.in_ok-right.right_gone + c.in_ok-both.gone)
whole c =
    rw take-append-drop at (Adds-halves (take (length c.args.raw.now / 2) c.args.raw.now) (drop (length c.args.raw.now / 2) c.args.raw.now) _ _ _ _ _ _ c.in_ok-left.ensures.adds (rw take_rest at c.in_ok-right.ensures.adds) (rw (c.wide-left.ensures.same, c.wide-right.ensures.same) at c.in_ok-both.ensures.adds))

pub overflow_add-result : goal.overflow_add-result
overflow_add-result t c = omega (arith, size-Adds _ _ _ _ (whole c), c.requires)

pub overflow_add-result-2 : goal.overflow_add-result-2
overflow_add-result-2 t c = omega (arith, size-Adds _ _ _ _ (whole c), c.requires)

pub returns-clause-adds : goal.returns-clause-adds
returns-clause-adds t c =
    rw take-append-drop at (Adds-halves (take (length c.args.raw.now / 2) c.args.raw.now) (drop (length c.args.raw.now / 2) c.args.raw.now) _ _ _ _ _ _ c.in_ok-left.ensures.adds (rw take_rest at c.in_ok-right.ensures.adds) (rw (c.wide-left.ensures.same, c.wide-right.ensures.same) at c.in_ok-both.ensures.adds))
