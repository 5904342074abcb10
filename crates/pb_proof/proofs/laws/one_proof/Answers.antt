use Rattle.pb_proof.proofs.lemmas.machine.Exact.{one_proof}
use Rattle.pb_proof.proofs.laws.one_proof.Goals as goal

pub returns : goal.returns
returns c = one_proof
