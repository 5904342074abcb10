use Rattle.pb_replay.proofs.{Common.inr, Common.refl, lemmas.rules.Steps.is_so, lemmas.rules.Steps.not_so}
use Rattle.pb_replay.proofs.step.bounds.goal_shown.Goals as goal

pub returns-then-branch-clause-shown : goal.returns-then-branch-clause-shown
returns-then-branch-clause-shown c = λ f n. is_so c.in_ok-is_shown.field-0 _ c.if-branch.true (c.in_ok-is_shown.ensures.ok f n)

pub returns-clause-shown : goal.returns-clause-shown
returns-clause-shown c = λ f n. inr (refl, not_so c.in_ok-is_shown.field-0 _ c.if-branch.false (c.in_ok-is_shown.ensures.ok f n))
