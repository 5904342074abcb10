use Rattle.std.proofs.Common.{◌∙◌, sym}
use Rattle.pb_propagate.proofs.lemmas.OpenSums.{sums-length}
use Rattle.pb_propagate.proofs.open_sums.OpenSums.len.Goals as goal

pub returns-clause-is : goal.returns-clause-is
returns-clause-is c = let s = c.self.inside in c.len.ensures.is ∙ sym (sums-length s.narrow s.wide c.self.view_is c.self.invariant)
