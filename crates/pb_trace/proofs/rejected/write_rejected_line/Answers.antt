use Rattle.pb_trace.proofs.{Common.arith, Texts.texts, rejected.write_rejected_line.Goals.returns as goal}

pub returns : goal
returns g c = grind (arith, texts)
