use Rattle.pb_tool.proofs.Common.{refl}
use Rattle.pb_tool.proofs.fault.text_fault.Goals as goal

pub returns : goal.returns
returns c = refl
