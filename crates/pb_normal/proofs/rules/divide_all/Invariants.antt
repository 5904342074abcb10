use Rattle.pb_normal.proofs.Common.{◌++◌, ◌≡◌, div_ceil, drop, map, take, with_coefficient}
use Rattle.pb_normal.proofs.rules.divide_all.Given as goal

-- the terms before the index are divided, and the others are left
abbrev pub invariant-terms : goal.invariant-terms
invariant-terms l = l.terms.items ≡ map (λ t. with_coefficient t (div_ceil t.coefficient l.k)) (take l.i l.fn.terms.items) ++ drop l.i l.fn.terms.items
