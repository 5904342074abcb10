use Rattle.pb_tool.proofs.Common.{rules}
use Rattle.pb_tool.proofs.fault.rejected.write_no_value.Goals as goal

pub returns : goal.returns
returns g c = search rules
