use Rattle.pb_tool.proofs.{Common.arith, lemmas.check.CheckerSteps.begun_counts}
use Rattle.pb_tool.proofs.commands.check.checker.Checker.new.Goals as goal

pub returns-clause-stands : goal.returns-clause-stands
returns-clause-stands c first at =
    let begins = rw c.unwrap_or.ensures at c.begin.ensures.begins in
    (begun_counts _ c.args.replay c.begin.result begins c.begin.ensures.running first at).0

pub returns-clause-counts : goal.returns-clause-counts
returns-clause-counts c first at = grind (arith, c.unwrap_or.ensures, c.begin.ensures.begins, begun_counts, c.begin.ensures.running)

pub returns-clause-replay : goal.returns-clause-replay
returns-clause-replay c = c.begin.ensures.begins.replay
