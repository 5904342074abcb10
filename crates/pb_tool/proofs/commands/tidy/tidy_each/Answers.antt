use Rattle.pb_tool.proofs.Common.{refl, arith}
use Rattle.pb_tool.proofs.commands.tidy.tidy_each.Goals as goal

pub returns-in-Err-clause-tidies : goal.returns-in-Err-clause-tidies
returns-in-Err-clause-tidies g c = rw c.text_fault.ensures (c.in-Err.ensures.refused, refl)

pub returns-in-Err-clause-given : goal.returns-in-Err-clause-given
returns-in-Err-clause-given g c =
    let (given, seen, e, refused) = c.in-Err.ensures.refused_given in rw c.text_fault.ensures (given, seen, e, (refused, refl))

pub returns-in-Ok-write_text-clause-tidies : goal.returns-in-Ok-write_text-clause-tidies
returns-in-Ok-write_text-clause-tidies g c = (c.in-Ok.text, c.in-Ok.ensures.file, c.in-Ok-write_text.ensures)

pub returns-in-Ok-write_text-clause-given : goal.returns-in-Ok-write_text-clause-given
returns-in-Ok-write_text-clause-given g c = grind (arith, c.in-Ok.ensures.given, c.in-Ok-write_text.ensures)

pub returns-clause-tidies : goal.returns-clause-tidies
returns-clause-tidies g c = (c.in-Ok.text, c.in-Ok.ensures.file, c.in-Err-write_text.ensures)

pub returns-clause-given : goal.returns-clause-given
returns-clause-given g c = grind (arith, c.in-Ok.ensures.given, c.in-Err-write_text.ensures)
