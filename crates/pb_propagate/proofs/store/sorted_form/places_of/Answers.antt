use Rattle.{pb_propagate.proofs.Common.arith, std.proofs.lemmas.Grind.common_steps}
use Rattle.pb_propagate.proofs.store.sorted_form.places_of.Goals as goal

pub ranks-preserved : goal.ranks-preserved
ranks-preserved c = grind (arith, common_steps)

pub returns : goal.returns
returns c = grind (arith, common_steps)
