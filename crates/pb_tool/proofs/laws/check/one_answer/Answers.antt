use Rattle.pb_tool.proofs.lemmas.check.OneAnswer as answer
use Rattle.pb_tool.proofs.laws.check.one_answer.Goals as goal

pub returns : goal.returns
returns g c = answer.one_answer g.W.Sink.contents g.W.Sink.faults c.all_is_single.ensures
