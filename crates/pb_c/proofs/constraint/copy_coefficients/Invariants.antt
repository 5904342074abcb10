use Rattle.pb_c.proofs.Common.{◌≡◌, map, take, coefficient_high, coefficient_low}
use Rattle.pb_c.proofs.constraint.copy_coefficients.Given as goal

abbrev pub invariant-terms : goal.invariant-terms
invariant-terms l = record {
  lows : take l.at l.lows ≡ map coefficient_low (take l.at l.form.terms);
  highs : take l.at l.highs ≡ map coefficient_high (take l.at l.form.terms);
}
