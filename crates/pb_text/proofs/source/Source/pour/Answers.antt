use Rattle.pb_text.proofs.lemmas.source.Drawn.{lost_nothing, pours_none}
use Rattle.pb_text.proofs.source.Source.pour.Goals as goal

pub returns-clause-pours : goal.returns-clause-pours
returns-clause-pours g c = rw c.requires.none (pours_none _ _ (lost_nothing _))
