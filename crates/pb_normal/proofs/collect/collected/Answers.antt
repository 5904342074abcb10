use Rattle.pb_normal.proofs.lemmas.terms.Totals.{Adds-permutation, Adds-self}
use Rattle.pb_normal.proofs.collect.collected.Goals as goal

pub returns-then-is_rising-2-clause-adds : goal.returns-then-is_rising-2-clause-adds
returns-then-is_rising-2-clause-adds c =
    rw c.in_ok-of-2.ensures.same (Adds-permutation _ _ _ _ c.sort_unstable_by_key.ensures.permutation (Adds-self c.sort_unstable_by_key.new.self))

pub returns-clause-adds : goal.returns-clause-adds
returns-clause-adds c =
    Adds-permutation _ _ _ _ c.sort_unstable_by_key.ensures.permutation (rw (c.in_ok-terms.ensures.same, c.wide.ensures.same) c.in_ok-sum.ensures.adds)
