use Rattle.pb_c.proofs.Common.{inl, inr, refl}
use Rattle.pb_c.proofs.checker.pb_checker_open.Goals as goal

pub returns-in-Ok-owning : goal.returns-in-Ok-owning
returns-in-Ok-owning c =
    inl ((c.in-Ok.session, c.in-Ok-owning.ensures, (c.in-Some.asked.limits, c.in-Some.asked.longest, c.in-Some.ensures.asked, c.in-Ok.ensures.opened)), refl)

pub returns-in-Err : goal.returns-in-Err
returns-in-Err c = inr (
  c.take.ensures.left,
  inr (inr (c.in-Err.fault, (c.in-Some.asked.limits, c.in-Some.asked.longest, c.in-Some.ensures.asked, c.in-Err.ensures.refused), c.opening_status.ensures, c.of_opening.ensures)),
)
