use Rattle.pb_normal.proofs.Common.{◌≤◌, drop, length, IsRising}
use Rattle.pb_normal.proofs.collect.is_rising.Given as goal

abbrev pub invariant-terms : goal.invariant-terms
invariant-terms l = (l.i ≤ length l.terms) × IsRising l.above (drop l.i l.terms)

abbrev pub decreases-terms : goal.decreases-terms
decreases-terms l = l.i
