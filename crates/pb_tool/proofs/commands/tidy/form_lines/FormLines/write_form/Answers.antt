use Rattle.pb_tool.proofs.Common.{rules}
use Rattle.pb_tool.proofs.commands.tidy.form_lines.FormLines.write_form.Goals as goal

pub returns-in-Ok-write_line-clause-text : goal.returns-in-Ok-write_line-clause-text
returns-in-Ok-write_line-clause-text c = search rules
