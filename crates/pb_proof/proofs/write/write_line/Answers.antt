use Rattle.pb_proof.proofs.Common.{refl, part_broke, part_then}
use Rattle.pb_proof.proofs.write.write_line.Goals as goal

pub returns-in_err-write_pieces : goal.returns-in_err-write_pieces
returns-in_err-write_pieces g c =
    part_broke g.S.Sink.contents g.S.Sink.faults _ _ _ _ _ _ refl c.from_residual.ensures.0 c.in_err-write_pieces.ensures

pub returns : goal.returns
returns g c = part_then g.S.Sink.contents g.S.Sink.faults _ _ _ _ _ _ _ refl c.in_ok-write_pieces.ensures c.write_bytes-2.ensures
