use Rattle.pb_tool.proofs.Common.{rules}
use Rattle.pb_tool.proofs.commands.check.step.step_watched.Goals as goal

pub returns-clause-shown : goal.returns-clause-shown
returns-clause-shown g c = search rules
