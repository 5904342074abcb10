use Rattle.pb_tool.proofs.{Common.arith, lemmas.check.CheckerSteps.stepped_err, lemmas.check.CheckerSteps.stepped_ok}
use Rattle.pb_tool.proofs.commands.check.step.step_through.Goals as goal

pub returns-in-Ok-clause-steps : goal.returns-in-Ok-clause-steps
returns-in-Ok-clause-steps c now at =
    stepped_ok c.args.replay.now c.step.new.self c.args.read.now c.in-Ok.ensures.steps (λ e spent. (c.in-Ok.ensures.again e spent).0) now at

pub returns-in-Err-clause-steps : goal.returns-in-Err-clause-steps
returns-in-Err-clause-steps c now at = grind (arith, stepped_err, c.rejected_at.ensures, c.in-Err.ensures.steps, c.in-Err.ensures.memory, c.in-Err.ensures.again)
