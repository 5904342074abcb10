use Rattle.pb_replay.proofs.{Common.IsTrue, Common.rules, lemmas.conclusions.Bounding.refuted-shown}
use Rattle.pb_replay.proofs.step.bounds.is_shown.Goals as goal

pub returns-then-branch-clause-ok : goal.returns-then-branch-clause-ok
returns-then-branch-clause-ok c =
    let yes : IsTrue c.in_ok-is_refuted.field-0 = search rules in
    λ f n. (λ t. refuted-shown c.args.constraints.now.forms f c.args.goal.now ((c.in_ok-is_refuted.ensures.ok f n).0 yes), λ s. search rules)
