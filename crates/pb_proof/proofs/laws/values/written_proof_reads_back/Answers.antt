use Rattle.pb_proof.proofs.lemmas.{Proofs.reads_back_of, machine.Exact.one_proof}
use Rattle.pb_proof.proofs.laws.values.written_proof_reads_back.Goals as goal

pub returns : goal.returns
returns c = reads_back_of one_proof
