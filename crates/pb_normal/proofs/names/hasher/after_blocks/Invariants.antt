use Rattle.pb_normal.proofs.Common.{◌%◌, ◌-◌, ◌/◌, ◌≡◌, ◌≤◌, length}
use Rattle.pb_normal.specs.contract.NameHasher.{mixed}
use Rattle.pb_normal.proofs.names.hasher.after_blocks.Given as goal

abbrev pub invariant-loop-at : goal.invariant-loop-at
invariant-loop-at l = (l.at % 16 ≡ 0) × (l.at ≤ length l.bytes - 1) × (l.state ≡ mixed l.bytes l.key l.start (l.at / 16))

abbrev pub decreases-loop-at : goal.decreases-loop-at
decreases-loop-at l = length l.bytes - l.at
