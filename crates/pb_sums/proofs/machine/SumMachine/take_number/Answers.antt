use Rattle.pb_sums.proofs.{Common.refl, lemmas.machine.States.midway_state}
use Rattle.pb_sums.proofs.machine.SumMachine.take_number.Goals as goal

pub returns-clause-state : goal.returns-clause-state
returns-clause-state c =
    midway_state c.self.inside.spaces c.self.inside.part c.self.inside.limit c.self.inside.terms c.self.inside.name _ c.if-magnitude-self.false refl
