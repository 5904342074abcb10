use Rattle.pb_sums.proofs.Common.{take, Wrote, further_bytes}
use Rattle.pb_sums.proofs.write.write_each.Given as goal

abbrev pub invariant-loop-term : goal.invariant-loop-term
invariant-loop-term g l = Wrote g.S.Sink.contents g.S.Sink.faults l.initial.out (further_bytes (take l.term-index l.terms)) l.out
