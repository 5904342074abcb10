use Rattle.pb_normal.proofs.Common.{◌≡◌, ◌==◌, not, filter, take}
use Rattle.pb_normal.proofs.rules.list_without.Given as goal

abbrev pub invariant-terms : goal.invariant-terms
invariant-terms g l = l.out.items ≡ filter (λ t. not (t.variable == l.variable)) (take l.i (g.L.Listed.entries l.terms))
