use Rattle.pb_replay.proofs.Common.{◌∙◌, arith, inr, None, refl, Some, get_or_default}
use Rattle.pb_replay.proofs.step.contradiction.some_contradiction.Goals as goal

pub returns : goal.returns
returns c =
    inr (λ h. let at = h.1 in c.loop-number.invariant at.0 h.0 (omega (arith, at.1, c.loop-number-test.false, c.len-number-end.ensures)) (get_or_default c.args.constraints.now.forms at.0 None (Some h.0) at.1 ∙ at.2) h.2, refl)
