use Rattle.pb_trace.proofs.{Common.arith, Texts.texts}
use Rattle.pb_trace.proofs.named.write_found.Goals as goal

pub returns-in_err-write_change : goal.returns-in_err-write_change
returns-in_err-write_change g c = grind (arith, texts)

pub returns : goal.returns
returns g c = grind (arith, texts)
