use Rattle.pb_proof.proofs.lemmas.Proofs.{proof_grows}
use Rattle.pb_proof.proofs.laws.larger_limits.Goals as goal

pub returns : goal.returns
returns c = λ limit limit' top top' items h j. proof_grows limit limit' top top' h j items
