use Rattle.pb_normal.proofs.Common.{◌+◌, ◌≡◌, drop, shift, side_terms}
use Rattle.pb_normal.proofs.linear.shift_of.Given as goal

abbrev pub invariant-loop-t : goal.invariant-loop-t
invariant-loop-t l = l.sum + shift (side_terms l.side (drop l.t-index l.terms)) ≡ shift (side_terms l.side l.terms)
