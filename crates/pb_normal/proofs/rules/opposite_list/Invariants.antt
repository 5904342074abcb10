use Rattle.pb_normal.proofs.Common.{◌≡◌, map, opposite, take}
use Rattle.pb_normal.proofs.rules.opposite_list.Given as goal

abbrev pub invariant-terms : goal.invariant-terms
invariant-terms g l = l.out.items ≡ map opposite (take l.i (g.L.Listed.entries l.terms))
