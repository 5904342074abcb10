use Rattle.pb_proof.proofs.lemmas.Proofs.{canonical_proof}
use Rattle.pb_proof.proofs.laws.values.canonical_proof_spells.Goals as goal

pub returns : goal.returns
returns c = canonical_proof
