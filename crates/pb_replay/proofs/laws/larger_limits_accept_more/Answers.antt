use Rattle.pb_replay.proofs.lemmas.meaning.Relating.{opens-more, accepts-more}
use Rattle.pb_replay.proofs.laws.larger_limits_accept_more.Goals as goal

pub returns : goal.returns
returns c = record { openings = opens-more; outcomes = accepts-more }
