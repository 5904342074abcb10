use Rattle.pb_trace.proofs.{Common.rules, trace.Trace.store_accepted.Goals.returns-in-Delete-clause-stored as goal}

pub returns-in-Delete-clause-stored : goal
returns-in-Delete-clause-stored g c = search rules
