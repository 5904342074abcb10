use Rattle.pb_replay.proofs.lemmas.{conclusions.Concluded.verdicts-there, meaning.Soundness.meanings-agree, meaning.Soundness.verdicts-mean}
use Rattle.pb_replay.proofs.laws.verdicts_are_true.Goals as goal

pub returns : goal.returns
returns c = record { forms = meanings-agree; verdicts = verdicts-mean; there = verdicts-there }
