use Rattle.pb_sums.proofs.{Common.largest, lemmas.machine.Asked.asks_one, lemmas.machine.States.accepts_one, lemmas.machine.States.first_is_state}
use Rattle.pb_sums.proofs.machine.SumMachine.new.Goals as goal

pub returns-clause-format : goal.returns-clause-format
returns-clause-format c = rw (c.largest.ensures.value, c.new.ensures, c.new-2.ensures) (accepts_one c.args.spaces c.args.part (largest c.args.limits))

pub returns-clause-state : goal.returns-clause-state
returns-clause-state c = rw (c.new.ensures, c.new-2.ensures) (first_is_state c.args.spaces c.args.part c.largest.result)

pub returns-clause-asks : goal.returns-clause-asks
returns-clause-asks c = rw (c.largest.ensures.value, c.new.ensures, c.new-2.ensures) (asks_one c.args.spaces c.args.part (largest c.args.limits))
