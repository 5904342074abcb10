use Rattle.pb_sums.proofs.Common.{◌++◌, ◌≡◌, length, List, Wrote, further_bytes, Term}
use Rattle.pb_sums.proofs.write.write_further.Given as goal

abbrev pub invariant-loop-rest : goal.invariant-loop-rest
invariant-loop-rest g l = (prefix : List Term) × (l.fn.terms ≡ prefix ++ l.rest) × Wrote g.S.Sink.contents g.S.Sink.faults l.fn.out (further_bytes prefix) l.out

abbrev pub decreases-loop-rest : goal.decreases-loop-rest
decreases-loop-rest g l = length l.rest
