use Rattle.pb_trace.proofs.{Common.rules, reasons.Scene.forced_by.Goals.returns as goal}

pub returns : goal
returns c = search rules
