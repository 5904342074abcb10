use Rattle.pb_normal.proofs.Common.{◌+◌, ◌≡◌, drop, total}
use Rattle.pb_normal.proofs.terms.choice.total_in.Given as goal

-- the sum so far and what follows are the whole
abbrev pub invariant-terms : goal.invariant-terms
invariant-terms g l = l.sum + total (g.C.Choice.chosen l.choice) (drop l.i (g.L.Listed.entries l.terms)) ≡ total (g.C.Choice.chosen l.choice) (g.L.Listed.entries l.terms)
