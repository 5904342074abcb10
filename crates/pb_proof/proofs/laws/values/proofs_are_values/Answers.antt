use Rattle.pb_proof.proofs.lemmas.Proofs.{proof_values}
use Rattle.pb_proof.proofs.laws.values.proofs_are_values.Goals as goal

pub returns-clause-proofs : goal.returns-clause-proofs
returns-clause-proofs c = proof_values
