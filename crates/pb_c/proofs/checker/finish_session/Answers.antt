use Rattle.pb_c.proofs.{Claims.no_fault, Common.◌∙◌, Common.sym}
use Rattle.pb_c.proofs.checker.finish_session.Goals as goal

pub returns-in-Ok-clause-claims : goal.returns-in-Ok-clause-claims
returns-in-Ok-clause-claims c limits longest i fed s zero =
    (c.in-Ok.verdict, c.of.ensures, c.in-Ok.ensures.verified limits longest i fed s, c.in-Ok.ensures.truth limits longest i fed s)

pub returns-in-Err-clause-claims : goal.returns-in-Err-clause-claims
returns-in-Err-clause-claims c limits longest i fed s zero = absurd (no_fault c.in-Err.fault (sym c.fault_status.ensures ∙ zero))

pub returns-in-Ok-clause-kept : goal.returns-in-Ok-clause-kept
returns-in-Ok-clause-kept c zero = c.in-Ok.ensures.ok

pub returns-in-Err-clause-kept : goal.returns-in-Err-clause-kept
returns-in-Err-clause-kept c zero = absurd (no_fault c.in-Err.fault (sym c.fault_status.ensures ∙ zero))
