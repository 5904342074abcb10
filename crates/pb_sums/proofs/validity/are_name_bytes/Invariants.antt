use Rattle.pb_sums.proofs.Common.{take, IsTrue, is_name_byte, Each}
use Rattle.pb_sums.proofs.validity.are_name_bytes.Given as goal

abbrev pub invariant-loop-byte : goal.invariant-loop-byte
invariant-loop-byte l = Each (λ b. IsTrue (is_name_byte b)) (take l.byte-index l.bytes)
