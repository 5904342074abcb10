use Rattle.pb_tool.proofs.lemmas.check.TwoSources as headline
use Rattle.pb_tool.proofs.laws.check.unsat_is_true.Goals as goal

pub returns : goal.returns
returns g c = headline.unsat g.W.Sink.contents g.W.Sink.faults c.verdicts_are_true.ensures.verdicts c.proofs_are_values.ensures.statements
