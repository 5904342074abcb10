use Rattle.pb_tool.proofs.lemmas.check.CheckerSteps as checked
use Rattle.pb_tool.proofs.laws.check.any_cut_of_a_proof.Goals as goal

pub returns : goal.returns
returns c = checked.any_cutting c.texts_are_read.ensures
