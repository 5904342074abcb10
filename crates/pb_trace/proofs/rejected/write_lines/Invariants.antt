use Rattle.pb_trace.proofs.Common.{Ok, known_by, WritesReasons}
use Rattle.pb_trace.proofs.rejected.write_lines.Given as goal

-- the lines so far are written
abbrev pub invariant-loop-end : goal.invariant-loop-end
invariant-loop-end g l = WritesReasons g.S.Sink.contents g.S.Sink.faults (known_by l.facts) l.initial.out (Ok tt) l.out
