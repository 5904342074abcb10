use Rattle.pb_replay.proofs.step.rup.is_implied.Goals as goal

pub returns-clause-conflict : goal.returns-clause-conflict
returns-clause-conflict c = rw c.visits-running.ensures c.in_ok-implied.ensures.conflict

pub returns-clause-completion : goal.returns-clause-completion
returns-clause-completion c = rw c.visits-running.ensures c.in_ok-implied.ensures.completion
