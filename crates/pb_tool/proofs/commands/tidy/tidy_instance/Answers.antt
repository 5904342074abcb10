use Rattle.pb_tool.proofs.{Common.opb, Common.AcceptsItems, Common.MayAsk, lemmas.file.GivenBytes.given_by, lemmas.tidy.InstanceLines.tidies_text}
use Rattle.pb_tool.proofs.commands.tidy.tidy_instance.Goals as goal

pub returns-clause-tidies : goal.returns-clause-tidies
returns-clause-tidies g c =
    tidies_text c.args.limits c.args.longest (AcceptsItems opb c.new.result) c.new.ensures.accepts c.new-2.result c.new-2.ensures.page c.new-2.ensures.objective (MayAsk opb c.new.result) c.new.ensures.asks g.W.Sink.contents g.W.Sink.faults _ _ c.tidy_each.result _ _ c.tidy_each.ensures.tidies

pub returns-clause-given : goal.returns-clause-given
returns-clause-given g c =
    given_by _ _ (λ left rest. tidies_text c.args.limits c.args.longest (AcceptsItems opb c.new.result) c.new.ensures.accepts c.new-2.result c.new-2.ensures.page c.new-2.ensures.objective (MayAsk opb c.new.result) c.new.ensures.asks g.W.Sink.contents g.W.Sink.faults left c.args.out.now c.tidy_each.result rest c.tidy_each.new.out) c.tidy_each.ensures.given
