use Rattle.pb_replay.proofs.lemmas.conclusions.Concluded.{whole-proofs-conclude}
use Rattle.pb_replay.proofs.laws.whole_proofs_conclude.Goals as goal

pub returns : goal.returns
returns c = whole-proofs-conclude
