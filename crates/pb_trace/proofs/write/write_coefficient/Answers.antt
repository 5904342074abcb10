use Rattle.pb_trace.proofs.{Common.rules, write.write_coefficient.Goals.returns as goal}

pub returns : goal
returns g c = search rules
