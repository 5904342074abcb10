use Rattle.pb_propagate.proofs.Common.{arith, pushed, spared}
use Rattle.pb_propagate.proofs.run.queue.Goals as goal

pub returns-then-left-bound : goal.returns-then-left-bound
returns-then-left-bound c = spared (omega (arith, c.if-left-bound.true))

pub returns : goal.returns
returns c = rw c.in_ok-push.ensures.items pushed
