use Rattle.pb_replay.proofs.Common.{◌≡◌, AreLive}
use Rattle.pb_replay.proofs.state.live.widen.Given as goal

-- this many variables were added
abbrev pub invariant-loop-number : goal.invariant-loop-number
invariant-loop-number l = AreLive l.fn.constraints.forms l._number l.constraints × (l.constraints.loaded ≡ l.fn.constraints.loaded)
