use Rattle.pb_tool.proofs.Common.{rules}
use Rattle.pb_tool.proofs.fault.status.Goals as goal

pub returns-in_default : goal.returns-in_default
returns-in_default c = search rules
