use Rattle.pb_replay.proofs.Common.{◌≡◌, length}
use Rattle.pb_replay.proofs.state.constraints.none_removed.Given as goal

-- this many were added
abbrev pub invariant-loop-number : goal.invariant-loop-number
invariant-loop-number l = length l.removed ≡ l._number
