use Rattle.pb_trace.proofs.{Common.arith, Texts.texts}
use Rattle.pb_trace.proofs.write.write_signed.Goals as goal

pub returns-in_err-write_bytes : goal.returns-in_err-write_bytes
returns-in_err-write_bytes g c = grind (arith, texts)

pub returns-in_err-write_number : goal.returns-in_err-write_number
returns-in_err-write_number g c = grind (arith, texts)

pub returns : goal.returns
returns g c = grind (arith, texts)
