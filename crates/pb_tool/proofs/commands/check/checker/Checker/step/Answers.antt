use Rattle.pb_tool.proofs.{Common.◌∙◌, Common.ap, Common.sym, Common.Checking, Common.fault_of, Common.arith, lemmas.check.CheckerSteps.stays_counted}
use Rattle.pb_tool.proofs.commands.check.checker.Checker.step.Goals as goal

pub returns-in-Some-clause-counts : goal.returns-in-Some-clause-counts
returns-in-Some-clause-counts c = stays_counted c.args.self.now c.args.piece.now c.in-Some.fault (ap (λ (x : Checking). fault_of x) (sym c.self.view_is) ∙ c.in-Some.is)

pub returns-clause-counts : goal.returns-clause-counts
returns-clause-counts c = grind (arith, c.advance.ensures.counts, c.advance.ensures.open)

pub returns-clause-memory : goal.returns-clause-memory
returns-clause-memory c = c.advance.ensures.memory
