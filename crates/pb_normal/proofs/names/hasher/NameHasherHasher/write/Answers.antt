use Rattle.pb_normal.{proofs.Common.refl, specs.contract.NameHasher.write}
use Rattle.pb_normal.proofs.names.hasher.NameHasherHasher.write.Goals as goal

pub returns : goal.returns
unfolding write
returns c = rw (c.folded_multiply-joined.ensures, c.after_blocks-state.ensures, ← c.ends-first.ensures) refl
