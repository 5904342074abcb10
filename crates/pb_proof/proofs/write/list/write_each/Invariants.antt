use Rattle.pb_proof.proofs.Common.{take, Wrote, listed_bytes}
use Rattle.pb_proof.proofs.write.list.write_each.Given as goal

abbrev pub invariant-loop-item : goal.invariant-loop-item
invariant-loop-item g l = Wrote g.S.Sink.contents g.S.Sink.faults l.initial.out (listed_bytes g.T.ListItem.line (take l.item-index l.items)) l.out
