use Rattle.pb_replay.proofs.{Common.to_z-of_z, Common.arith, lemmas.conclusions.Bounding.objective-ok}
use Rattle.pb_replay.proofs.step.bounds.objective_shown.Goals as goal

pub returns-clause-shown : goal.returns-clause-shown
returns-clause-shown c = grind (arith, objective-ok, to_z-of_z, c.in_ok-goal.ensures.ok, c.objective_form.ensures.constraints, c.goal_shown.ensures.shown)
