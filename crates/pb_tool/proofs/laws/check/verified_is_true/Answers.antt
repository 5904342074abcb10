use Rattle.pb_tool.proofs.lemmas.check.TwoSources as headline
use Rattle.pb_tool.proofs.laws.check.verified_is_true.Goals as goal

pub returns : goal.returns
returns c = headline.verdicts c.verdicts_are_true.ensures.verdicts c.proofs_are_values.ensures.statements
