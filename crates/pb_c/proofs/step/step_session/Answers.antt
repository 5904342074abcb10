use Rattle.pb_c.proofs.{Claims.no_fault, Common.◌∙◌, Common.refl, Common.sym}
use Rattle.pb_c.proofs.step.step_session.Goals as goal

pub returns-in-Ok-clause-used : goal.returns-in-Ok-clause-used
returns-in-Ok-clause-used c = (λ zero. c.in-Ok.ensures.used, λ fails. absurd (fails refl))

pub returns-in-Err-clause-used : goal.returns-in-Err-clause-used
returns-in-Err-clause-used c = (λ zero. absurd (no_fault c.in-Err.fault (sym c.fault_status.ensures ∙ zero)), λ fails. refl)
