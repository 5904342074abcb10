use Rattle.pb_trace.proofs.{Common.arith, Texts.texts}
use Rattle.pb_trace.proofs.line.write_line.Goals as goal

pub returns-in_err-write_added-clause-text : goal.returns-in_err-write_added-clause-text
returns-in_err-write_added-clause-text g c = let added = rw c.arrow_of.ensures at c.in_err-write_added.ensures in grind (arith, texts)

pub returns-in_err-write_tail-clause-text : goal.returns-in_err-write_tail-clause-text
returns-in_err-write_tail-clause-text g c = let added = rw c.arrow_of.ensures at c.in_ok-write_added.ensures in grind (arith, texts)

pub returns-in_err-write_bytes-clause-text : goal.returns-in_err-write_bytes-clause-text
returns-in_err-write_bytes-clause-text g c = let added = rw c.arrow_of.ensures at c.in_ok-write_added.ensures in grind (arith, texts)
