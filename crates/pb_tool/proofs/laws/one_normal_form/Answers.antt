use Rattle.pb_tool.proofs.lemmas.tidy.NormalFile.{one_form}
use Rattle.pb_tool.proofs.laws.one_normal_form.Goals as goal

pub returns : goal.returns
returns c = one_form c.forms_are_unique.ensures.written
