use Rattle.pb_replay.proofs.Common.{AreValued}
use Rattle.pb_replay.proofs.state.solution.first_open.Given as goal

-- each name so far has a value
abbrev pub invariant-loop-number : goal.invariant-loop-number
invariant-loop-number l = AreValued l.given l.number
