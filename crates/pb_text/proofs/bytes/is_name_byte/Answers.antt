use Rattle.pb_text.proofs.{Common.◌∙◌, Common.sym, lemmas.text.NameBytes.in_table, lemmas.text.NameBytes.name_ascii}
use Rattle.pb_text.proofs.bytes.is_name_byte.Goals as goal

pub returns-clause-byte : goal.returns-clause-byte
returns-clause-byte c = in_table c.args.byte c.ranges.byte.fits

pub returns-clause-ascii : goal.returns-clause-ascii
returns-clause-ascii c = λ yes. name_ascii c.args.byte (sym (in_table c.args.byte c.ranges.byte.fits) ∙ yes)
