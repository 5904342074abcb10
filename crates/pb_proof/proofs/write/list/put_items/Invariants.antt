use Rattle.pb_proof.proofs.Common.{◌++◌, ◌≡◌, ◌≤◌, drop, length, listed_bytes}
use Rattle.pb_proof.proofs.write.list.put_items.Given as goal

abbrev pub invariant-loop-left : goal.invariant-loop-left
invariant-loop-left g l = (l.left ≤ length l.items) × (l.piece ≡ listed_bytes g.T.ListItem.line (drop l.left l.items) ++ l.fn.piece)

abbrev pub decreases-loop-left : goal.decreases-loop-left
decreases-loop-left g l = l.left
