use Rattle.pb_sums.proofs.lemmas.machine.States.{first_is_state}
use Rattle.pb_sums.proofs.machine.SumMachine.restart.Goals as goal

pub returns-clause-state : goal.returns-clause-state
returns-clause-state c = rw (c.new.ensures, c.new-2.ensures) (first_is_state c.self.inside.spaces c.args.part c.self.inside.limit)
