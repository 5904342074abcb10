use Rattle.pb_sums.proofs.lemmas.machine.States.{space_state}
use Rattle.pb_sums.proofs.machine.SumMachine.take_space.Goals as goal

pub returns-clause-state : goal.returns-clause-state
returns-clause-state c =
    space_state c.self.inside.spaces c.self.inside.part c.self.inside.limit c.flush.new.terms c.flush.new.name c.self.inside.phase c.in-Some.phase c.in-Some.ensures
