use Rattle.pb_propagate.proofs.lemmas.Parts.{no_parts}
use Rattle.pb_propagate.proofs.lists.Lists.new.Goals as goal

pub invariant_of-result : goal.invariant_of-result
invariant_of-result g c = rw c.new-2.ensures (no_parts _)
