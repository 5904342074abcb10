use Rattle.pb_normal.proofs.Common.{◌++◌, ◌≡◌, drop, map, min, take, with_coefficient}
use Rattle.pb_normal.proofs.rules.saturate_all.Given as goal

-- the terms before the index are reduced, and the others are left
abbrev pub invariant-terms : goal.invariant-terms
invariant-terms l = l.terms.items ≡ map (λ t. with_coefficient t (min t.coefficient l.degree)) (take l.i l.fn.terms.items) ++ drop l.i l.fn.terms.items
