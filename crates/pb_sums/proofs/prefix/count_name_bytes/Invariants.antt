use Rattle.pb_sums.proofs.Common.{take, IsTrue, is_name_byte, Each}
use Rattle.pb_sums.proofs.prefix.count_name_bytes.Given as goal

abbrev pub invariant-loop-i : goal.invariant-loop-i
invariant-loop-i l = Each (λ b. IsTrue (is_name_byte b)) (take l.i l.text)
