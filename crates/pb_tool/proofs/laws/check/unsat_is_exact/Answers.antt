use Rattle.pb_tool.proofs.Common.{[], Some, Unsat}
use Rattle.pb_tool.proofs.laws.check.unsat_is_exact.Goals as goal

pub returns : goal.returns
returns g c limits longest i p call texts checks decided = (
  c.answers_are_exact.ensures limits longest i p call Unsat texts checks decided,
  λ v. c.verified_is_true.ensures limits longest v.instance v.proof Unsat (Some p) (Some []) v.second v.verified,
)
