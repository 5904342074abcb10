use Rattle.pb_trace.{proofs.Common.flat_map, proofs.Common.take, proofs.Common.Wrote, specs.Counted.count_line}
use Rattle.pb_trace.proofs.stats.write_counts.Given as goal

abbrev pub invariant-loop-name : goal.invariant-loop-name
invariant-loop-name g l = Wrote g.S.Sink.contents g.S.Sink.faults l.initial.out (flat_map (λ x. count_line x.0.now x.1) (take l.name-index l.counts)) l.out
