use Rattle.pb_text.proofs.lemmas.feeder.Reported.{any_cutting}
use Rattle.pb_text.proofs.laws.any_cutting.Goals as goal

pub returns-clause-reads : goal.returns-clause-reads
returns-clause-reads g c longest start before after feeds s counts h = any_cutting longest start after feeds before s counts h
