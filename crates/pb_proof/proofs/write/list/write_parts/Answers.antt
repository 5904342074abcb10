use Rattle.pb_proof.proofs.Common.{refl, part_broke, part_then}
use Rattle.pb_proof.proofs.write.list.write_parts.Goals as goal

pub returns-in_err-write_each : goal.returns-in_err-write_each
returns-in_err-write_each g c =
    part_then g.S.Sink.contents g.S.Sink.faults _ _ _ _ _ _ _ refl c.in_ok-write_bytes.ensures
    (part_broke g.S.Sink.contents g.S.Sink.faults _ _ _ _ _ _ refl c.from_residual-in_err-write_each.ensures.0 c.in_err-write_each.ensures)

pub returns : goal.returns
returns g c =
    part_then g.S.Sink.contents g.S.Sink.faults _ _ _ _ _ _ _ refl c.in_ok-write_bytes.ensures
    (part_then g.S.Sink.contents g.S.Sink.faults _ _ _ _ _ _ _ refl c.in_ok-write_each.ensures (rw c.as_bytes.ensures at c.write_bytes-2.ensures))
