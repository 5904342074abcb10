use Rattle.pb_trace.proofs.{Common.rules, stats.Stats.write.Goals.returns as goal}

pub returns : goal
returns g c = search rules
