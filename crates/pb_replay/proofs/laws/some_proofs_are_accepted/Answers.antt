use Rattle.pb_replay.proofs.lemmas.Worked.{short-accepted, other-accepted, logged-verified, shown-verified, best-verified}
use Rattle.pb_replay.proofs.laws.some_proofs_are_accepted.Goals as goal

pub returns : goal.returns
returns c = record { sum = short-accepted; propagation = other-accepted; logged = logged-verified; shown = shown-verified; bounds = best-verified }
