use Rattle.pb_opb.proofs.Common.{refl, part_broke, part_then}
use Rattle.pb_opb.proofs.write.write_instance.Goals as goal

pub returns-in_err-write_header : goal.returns-in_err-write_header
returns-in_err-write_header g c =
    part_broke g.S.Sink.contents g.S.Sink.faults _ _ _ _ _ _ refl c.from_residual.ensures.0 (rw (c.len.ensures, c.as_slice.ensures) at c.in_err-write_header.ensures)

pub returns : goal.returns
returns g c =
    part_then g.S.Sink.contents g.S.Sink.faults _ _ _ _ _ _ _ refl (rw (c.len.ensures, c.as_slice.ensures) at c.in_ok-write_header.ensures)
    (c.write_body.ensures)
