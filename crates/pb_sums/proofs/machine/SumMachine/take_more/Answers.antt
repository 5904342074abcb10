use Rattle.pb_sums.proofs.lemmas.machine.States.{more_state}
use Rattle.pb_sums.proofs.machine.SumMachine.take_more.Goals as goal

pub returns-clause-state : goal.returns-clause-state
returns-clause-state c =
    let more = c.requires in
    more_state c.self.inside.spaces c.self.inside.part c.self.inside.limit c.self.inside.terms _ c.self.inside.phase c.self.invariant.1.0 (rw (← c.self.view_is) at more)
