use Rattle.pb_tool.proofs.{Common.arith, lemmas.tidy.NormalFile.lines_named}
use Rattle.pb_tool.proofs.commands.tidy.normal_text.Forms.number.Goals as goal

pub returns-in-Ok-clause-made : goal.returns-in-Ok-clause-made
returns-in-Ok-clause-made c = grind (arith, c.in-Stored.is, lines_named, c.in-Ok.ensures.names, c.number.ensures.text, c.number.ensures.count)
