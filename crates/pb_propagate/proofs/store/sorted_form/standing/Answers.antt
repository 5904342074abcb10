use Rattle.{pb_propagate.proofs.Common.arith, pb_propagate.proofs.lemmas.store.Stored.standing-all, std.proofs.lemmas.Grind.common_steps}
use Rattle.pb_propagate.proofs.store.sorted_form.standing.Goals as goal

pub entries-preserved : goal.entries-preserved
entries-preserved c = grind (arith, common_steps)

pub returns : goal.returns
returns c = grind (arith, standing-all)
