use Rattle.{pb_sums.proofs.Common.arith, std.proofs.lemmas.List.drop_all}
use Rattle.pb_sums.proofs.piece.Piece.clear.Goals as goal

pub returns : goal.returns
returns c = drop_all 512 c.self.inside.bytes (omega arith)
