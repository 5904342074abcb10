use Rattle.pb_propagate.proofs.Common.{arith, pushed, spared}
use Rattle.pb_propagate.proofs.run.note.Goals as goal

pub returns-then-opened-rest : goal.returns-then-opened-rest
returns-then-opened-rest c = spared (λ e. omega (arith, e, c.if-opened-rest.true))

pub returns : goal.returns
returns c = rw c.in_ok-push.ensures.items pushed
