use Rattle.pb_trace.proofs.Common.{◌-◌, ◌≤◌, length, Wrote, added_bytes}
use Rattle.pb_trace.proofs.line.write_added.Given as goal

-- the constraints so far are written
abbrev pub invariant-loop-index : goal.invariant-loop-index
invariant-loop-index g l =
    Wrote g.S.Sink.contents g.S.Sink.faults l.initial.out (added_bytes l.style.ids l.style.lines.now l.arrow l.replay.names l.replay.live l.newest (l.index - l.newest)) l.out
    × (l.index - l.newest ≤ length l.replay.live - l.newest)
    × (l.newest ≤ l.index)
