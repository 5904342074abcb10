use Rattle.pb_tool.proofs.Common.{refl}
use Rattle.pb_tool.proofs.commands.check.step.rejected_at.Goals as goal

pub returns : goal.returns
returns c = refl
