use Rattle.pb_sums.proofs.{Common.refl, Common.Phase, lemmas.machine.States.midway_state}
use Rattle.pb_sums.proofs.machine.SumMachine.take_term.Goals as goal

pub returns-clause-state : goal.returns-clause-state
returns-clause-state c = midway_state c.self.inside.spaces c.self.inside.part c.self.inside.limit _ _ Phase.Between tt refl
