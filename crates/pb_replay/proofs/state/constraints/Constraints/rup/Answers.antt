use Rattle.pb_replay.proofs.state.constraints.Constraints.rup.Goals as goal

pub returns-clause-conflict : goal.returns-clause-conflict
returns-clause-conflict c = rw (← c.self.view_is) c.in_ok-found.ensures.conflict
