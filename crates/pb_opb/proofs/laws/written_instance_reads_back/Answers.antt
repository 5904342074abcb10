use Rattle.pb_opb.proofs.lemmas.instances.Again.{reads_back}
use Rattle.pb_opb.proofs.laws.written_instance_reads_back.Goals as goal

pub returns : goal.returns
returns c = reads_back
