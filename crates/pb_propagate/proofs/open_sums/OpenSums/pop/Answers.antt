use Rattle.pb_propagate.proofs.lemmas.OpenSums.{cut}
use Rattle.pb_propagate.proofs.open_sums.OpenSums.pop.Goals as goal

pub returns : goal.returns
returns c = let s = c.self.inside in cut s.narrow s.wide c.self.view_is c.self.invariant c.pop.ensures c.pop-2.ensures
