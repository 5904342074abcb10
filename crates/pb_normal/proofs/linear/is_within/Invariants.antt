use Rattle.pb_normal.proofs.Common.{◌+◌, ◌≡◌, drop, unsigned_abs, magnitude}
use Rattle.pb_normal.proofs.linear.is_within.Given as goal

abbrev pub invariant-loop-t : goal.invariant-loop-t
invariant-loop-t l = l.sum + magnitude (drop l.t-index l.terms) ≡ magnitude l.terms + unsigned_abs l.degree
