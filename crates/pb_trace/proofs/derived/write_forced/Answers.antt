use Rattle.pb_trace.proofs.{Common.arith, Texts.texts}
use Rattle.pb_trace.proofs.derived.write_forced.Goals as goal

pub returns-in_err-write_numbered : goal.returns-in_err-write_numbered
returns-in_err-write_numbered g c = grind (arith, texts)

pub returns : goal.returns
returns g c = grind (arith, texts)
