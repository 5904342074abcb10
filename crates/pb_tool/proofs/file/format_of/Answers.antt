use Rattle.pb_tool.proofs.Common.{rules}
use Rattle.pb_tool.proofs.file.format_of.Goals as goal

pub returns-in-Ok-clause-format : goal.returns-in-Ok-clause-format
returns-in-Ok-clause-format g c = search rules
