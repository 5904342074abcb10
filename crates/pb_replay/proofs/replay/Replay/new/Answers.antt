use Rattle.pb_replay.proofs.Common.{arith}
use Rattle.pb_replay.proofs.replay.Replay.new.Goals as goal

pub returns : goal.returns
returns c = grind (arith, c.with_hasher.ensures)
