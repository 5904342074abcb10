use Rattle.pb_replay.proofs.lemmas.meaning.Relating.{openings-single, outcomes-single, unvalued-old, unvalued-wants}
use Rattle.pb_replay.proofs.laws.outcomes_are_single.Goals as goal

pub returns : goal.returns
returns c = record { openings = openings-single; outcomes = outcomes-single; unvalued = unvalued-old; wanting = unvalued-wants }
