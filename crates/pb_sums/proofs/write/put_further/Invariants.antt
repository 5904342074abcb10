use Rattle.pb_sums.proofs.Common.{◌++◌, ◌≡◌, ◌≤◌, drop, length, further_bytes}
use Rattle.pb_sums.proofs.write.put_further.Given as goal

abbrev pub invariant-loop-left : goal.invariant-loop-left
invariant-loop-left l = (l.left ≤ length l.terms) × (l.piece ≡ further_bytes (drop l.left l.terms) ++ l.fn.piece)

abbrev pub decreases-loop-left : goal.decreases-loop-left
decreases-loop-left l = l.left
