use Rattle.pb_replay.proofs.lemmas.Worked.{unsat-refused, lower-refused, upper-refused}
use Rattle.pb_replay.proofs.laws.some_proofs_are_refused.Goals as goal

pub returns : goal.returns
returns c = record { unsat = unsat-refused; lower = lower-refused; upper = upper-refused }
