use Rattle.pb_tool.proofs.lemmas.check.CheckerSteps.{texts_read}
use Rattle.pb_tool.proofs.commands.check.checker.texts_are_read.Goals as goal

pub returns : goal.returns
returns c = texts_read c.proofs_are_exact.ensures c.standing_is_reading.ensures
