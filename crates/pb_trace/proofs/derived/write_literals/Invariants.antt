use Rattle.pb_trace.proofs.Common.{take, flat_map, Wrote, forced_line, known_by}
use Rattle.pb_trace.proofs.derived.write_literals.Given as goal

-- the lines of the literals so far are written
abbrev pub invariant-loop-one : goal.invariant-loop-one
invariant-loop-one g l = Wrote g.S.Sink.contents g.S.Sink.faults l.initial.out (flat_map (forced_line (known_by l.facts)) (take l.one-index l.forced)) l.out
