use Rattle.pb_trace.proofs.Common.{◌≡◌, take, AreDistinct}
use Rattle.pb_trace.proofs.reasons.names_of.Given as goal

-- the names so far are copied
abbrev pub invariant-loop-number : goal.invariant-loop-number
invariant-loop-number l = AreDistinct l.replay.names → l.names ≡ take l.number l.replay.names
