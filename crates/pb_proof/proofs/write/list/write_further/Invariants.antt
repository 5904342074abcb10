use Rattle.pb_proof.proofs.Common.{◌++◌, ◌≡◌, length, List, Wrote, listed_bytes}
use Rattle.pb_proof.proofs.write.list.write_further.Given as goal

abbrev pub invariant-loop-rest : goal.invariant-loop-rest
invariant-loop-rest g l = (prefix : List g.row.T.Denot) × (l.fn.items ≡ prefix ++ l.rest) × Wrote g.S.Sink.contents g.S.Sink.faults l.fn.out (listed_bytes g.T.ListItem.line prefix) l.out

abbrev pub decreases-loop-rest : goal.decreases-loop-rest
decreases-loop-rest g l = length l.rest
