use Rattle.pb_tool.proofs.{Common.[], Common.refl, Common.arith, lemmas.check.CheckerSteps.leads_none, lemmas.check.CheckerSteps.somewhere}
use Rattle.pb_tool.proofs.commands.check.checker.Checker.begin.Goals as goal

pub invariant_of-result : goal.invariant_of-result
invariant_of-result c =
    let (first, at) = somewhere c.args.replay c.report_sound.ensures.sound in
    (c.args.replay.limits, _, c.args.replay.problem, first, [], rw (c.new-machine.ensures.begins, c.limits.ensures) at c.new-machine.ensures.asks, record { spans = []; stands = rw (c.new-machine.ensures.begins, c.limits.ensures) at c.within.ensures.stands; running = c.within.ensures.running; limits_are = refl; problem = refl; now = first; at = at; accepted = leads_none c.args.replay.limits c.args.replay.problem first })

pub returns-clause-begins : goal.returns-clause-begins
returns-clause-begins c = grind (arith, c.new-machine.ensures.begins, c.limits.ensures, c.within.ensures.stands, c.within.ensures.running, c.within.ensures.place)
