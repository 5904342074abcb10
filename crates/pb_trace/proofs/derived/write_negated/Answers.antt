use Rattle.pb_trace.proofs.{Common.arith, Texts.texts}
use Rattle.pb_trace.proofs.derived.write_negated.Goals as goal

pub returns-in_err-write_bytes : goal.returns-in_err-write_bytes
returns-in_err-write_bytes g c = grind (arith, texts)

pub returns-in_err-write_form : goal.returns-in_err-write_form
returns-in_err-write_form g c = grind (arith, texts)

pub returns : goal.returns
returns g c = grind (arith, texts)
