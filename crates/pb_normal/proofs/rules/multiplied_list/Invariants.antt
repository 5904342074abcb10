use Rattle.pb_normal.proofs.Common.{◌≡◌, ◌*◌, map, take, with_coefficient}
use Rattle.pb_normal.proofs.rules.multiplied_list.Given as goal

abbrev pub invariant-terms : goal.invariant-terms
invariant-terms g l = l.out.items ≡ map (λ t. with_coefficient t (t.coefficient * l.k)) (take l.i (g.L.Listed.entries l.terms))
