use Rattle.pb_text.proofs.Common.{◌≡◌, IsTrue, take, value_from, is_digit, Each}
use Rattle.pb_text.proofs.digits.count_digits.Given as goal

abbrev pub invariant-loop-i : goal.invariant-loop-i
invariant-loop-i l = record {
  digits : Each (λ b. IsTrue (is_digit b)) (take l.i l.text);
  value : l.value ≡ value_from 0 (take l.i l.text);
}
