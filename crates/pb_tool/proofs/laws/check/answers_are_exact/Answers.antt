use Rattle.pb_tool.proofs.lemmas.check.OneAnswer as answer
use Rattle.pb_tool.proofs.laws.check.answers_are_exact.Goals as goal

pub returns : goal.returns
returns g c = answer.answers_exactly g.W.Sink.contents g.W.Sink.faults c.all_is_single.ensures
