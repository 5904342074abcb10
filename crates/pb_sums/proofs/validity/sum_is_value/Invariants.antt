use Rattle.pb_sums.proofs.Common.{take, largest, AreTerms}
use Rattle.pb_sums.proofs.validity.sum_is_value.Given as goal

abbrev pub invariant-loop-term : goal.invariant-loop-term
invariant-loop-term l = AreTerms (largest l.limits) (take l.term-index l.terms)
