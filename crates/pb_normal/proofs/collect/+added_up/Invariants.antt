use Rattle.pb_normal.proofs.Common.{length}
use Rattle.pb_normal.proofs.collect.+added_up.Given as goal

abbrev pub decreases-added_up : goal.decreases-added_up
decreases-added_up l = length l.raw.now
