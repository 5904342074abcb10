use Rattle.pb_trace.proofs.{Common.sym, Storing.stores-live}
use Rattle.pb_trace.proofs.laws.stores_the_live.Goals as goal

pub returns-clause-first : goal.returns-clause-first
returns-clause-first c r first = rw (← first.next) (sym first.live)

pub returns-clause-statements : goal.returns-clause-statements
returns-clause-statements c = stores-live
