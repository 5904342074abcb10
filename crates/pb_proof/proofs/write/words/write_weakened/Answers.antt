use Rattle.pb_proof.proofs.Common.{refl, part_broke}
use Rattle.pb_proof.proofs.write.words.write_weakened.Goals as goal

pub returns-in_err-write_bytes : goal.returns-in_err-write_bytes
returns-in_err-write_bytes g c = part_broke g.S.Sink.contents g.S.Sink.faults _ _ _ _ _ _ refl c.from_residual.ensures.0 c.in_err-write_bytes.ensures
