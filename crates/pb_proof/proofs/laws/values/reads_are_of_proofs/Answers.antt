use Rattle.pb_proof.proofs.lemmas.Proofs.{read_statements}
use Rattle.pb_proof.proofs.laws.values.reads_are_of_proofs.Goals as goal

pub returns : goal.returns
returns c = read_statements
