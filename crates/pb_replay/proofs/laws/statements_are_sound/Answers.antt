use Rattle.pb_replay.proofs.lemmas.meaning.Soundness.{problems-proper, solutions-accounted, first-sound, statements-sound}
use Rattle.pb_replay.proofs.laws.statements_are_sound.Goals as goal

pub returns : goal.returns
returns c = record { problems = problems-proper; first = first-sound; statements = statements-sound; accounted = solutions-accounted }
