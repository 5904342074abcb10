use Rattle.pb_c.proofs.Common.{◌≡◌, map, take, sign}
use Rattle.pb_c.proofs.constraint.copy_literals.Given as goal

abbrev pub invariant-terms : goal.invariant-terms
invariant-terms l = record {
  numbers : take l.at l.numbers ≡ map (λ t. t.variable) (take l.at l.form.terms);
  negated : take l.at l.negated ≡ map sign (take l.at l.form.terms);
}
