use Rattle.pb_trace.proofs.{Common.arith, Texts.texts}
use Rattle.pb_trace.proofs.write.write_counted.Goals as goal

pub returns-in_err-write_bytes : goal.returns-in_err-write_bytes
returns-in_err-write_bytes g c = grind (arith, texts)

pub returns-in_err-write_bytes-2 : goal.returns-in_err-write_bytes-2
returns-in_err-write_bytes-2 g c = grind (arith, texts)

pub returns-in_err-write_count : goal.returns-in_err-write_count
returns-in_err-write_count g c = grind (arith, texts)

pub returns : goal.returns
returns g c = grind (arith, texts)
