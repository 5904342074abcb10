use Rattle.pb_tool.proofs.Common.{rules}
use Rattle.pb_tool.proofs.laws.check.keeps_its_parts.Goals as goal

pub returns : goal.returns
returns c = search rules
