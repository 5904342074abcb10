use Rattle.pb_proof.proofs.Common.{refl, part_broke, part_then}
use Rattle.pb_proof.proofs.write.write_rup.Goals as goal

pub returns-in_err-write_bytes : goal.returns-in_err-write_bytes
returns-in_err-write_bytes g c = part_broke g.S.Sink.contents g.S.Sink.faults _ _ _ _ _ _ refl c.from_residual.ensures.0 c.in_err-write_bytes.ensures

pub returns : goal.returns
returns g c = part_then g.S.Sink.contents g.S.Sink.faults _ _ _ _ _ _ _ refl c.in_ok-write_bytes.ensures c.write_linear.ensures
