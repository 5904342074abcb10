use Rattle.pb_tool.proofs.Common.{arith}
use Rattle.pb_tool.proofs.commands.check.check.Goals as goal

pub returns : goal.returns
returns g c = grind (arith, c.check_with_hasher.ensures)
