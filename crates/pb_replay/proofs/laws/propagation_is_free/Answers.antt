use Rattle.pb_replay.proofs.lemmas.meaning.Propagated.{order-free, completion-set}
use Rattle.pb_replay.proofs.laws.propagation_is_free.Goals as goal

pub returns : goal.returns
returns c = record { conflicts = order-free; completions = completion-set }
