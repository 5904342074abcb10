use Rattle.pb_opb.proofs.lemmas.instances.Again.{canonical_instance}
use Rattle.pb_opb.proofs.laws.canonical_instance_spells.Goals as goal

pub returns : goal.returns
returns c = canonical_instance
