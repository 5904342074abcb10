use Rattle.pb_opb.proofs.lemmas.instances.Kept.{instance_values}
use Rattle.pb_opb.proofs.laws.instances_are_values.Goals as goal

pub returns : goal.returns
returns c = instance_values
