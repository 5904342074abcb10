use Rattle.pb_sums.proofs.lemmas.machine.States.{is_state}
use Rattle.pb_sums.proofs.machine.SumMachineMachine.is_done.Goals as goal

pub returns-clause-state : goal.returns-clause-state
returns-clause-state c = rw (← c.self.view_is) (is_state _ c.self.invariant.1)
