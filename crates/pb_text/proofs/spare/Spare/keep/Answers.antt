use Rattle.std.proofs.Common.{rules}
use Rattle.pb_text.proofs.spare.Spare.keep.Goals as goal

pub invariant_of-self : goal.invariant_of-self
invariant_of-self g c = search rules
