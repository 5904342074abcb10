use Rattle.{pb_normal.proofs.Common.refl, std.specs.Hash.FoldHasher.folded_multiply}
use Rattle.pb_normal.proofs.names.hasher.folded_multiply.Goals as goal

pub returns : goal.returns
unfolding folded_multiply
returns c = refl
