use Rattle.pb_tool.proofs.lemmas.check.CheckerSteps.{none_at, open_at}
use Rattle.pb_tool.proofs.commands.check.checker.Checker.held.Goals as goal

pub returns-clause-few : goal.returns-clause-few
returns-clause-few c limits longest v first input none given =
    rw (← c.self.view_is) (open_at c.proofs_are_exact.ensures limits longest v first input c.self.inside.feeder c.self.inside.replay c.self.inside.fault (rw (← c.self.view_is) at none) (rw (← c.self.view_is) at given) c.held.result c.held.ensures.few)

pub returns-clause-none : goal.returns-clause-none
returns-clause-none c limits longest v first input none given ends =
    none_at c.proofs_are_exact.ensures limits longest v first input c.self.inside.feeder c.self.inside.replay c.self.inside.fault (rw (← c.self.view_is) at none) (rw (← c.self.view_is) at given) c.held.result c.held.ensures.few c.prefix_free.ensures c.texts_are_read.ensures ends
