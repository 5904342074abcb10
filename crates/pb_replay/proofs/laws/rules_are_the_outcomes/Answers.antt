use Rattle.pb_replay.proofs.lemmas.meaning.Ruled.{rules-outcomes}
use Rattle.pb_replay.proofs.laws.rules_are_the_outcomes.Goals as goal

pub returns : goal.returns
returns c = rules-outcomes
