use Rattle.pb_trace.proofs.{Common.rules, propagation.Propagation.visit_named.Goals.returns-in-Some as goal}

pub returns-in-Some : goal
returns-in-Some c = search rules
