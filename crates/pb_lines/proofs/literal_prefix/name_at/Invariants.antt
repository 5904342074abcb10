use Rattle.pb_lines.proofs.Common.{◌-◌, ◌≤◌, length}
use Rattle.pb_lines.proofs.literal_prefix.name_at.Given as goal

abbrev pub invariant-loop-length : goal.invariant-loop-length
invariant-loop-length l = record {
  bound : l.length ≤ length l.text;
}

abbrev pub decreases-loop-length : goal.decreases-loop-length
decreases-loop-length l = length l.text - l.length
