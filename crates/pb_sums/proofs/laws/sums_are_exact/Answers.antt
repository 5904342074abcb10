use Rattle.pb_sums.proofs.lemmas.machine.{Links.reads_something, Links.reads-run, States.is_state}
use Rattle.pb_sums.proofs.laws.sums_are_exact.Goals as goal

pub returns-clause-last : goal.returns-clause-last
returns-clause-last c = λ s after text event h. (reads-run s.spaces s.part s.limit text s.work event after h).1

pub returns-clause-alive : goal.returns-clause-alive
returns-clause-alive c = λ s h. reads_something s.spaces s.part s.limit s.work h

pub returns-clause-state : goal.returns-clause-state
returns-clause-state c = is_state
