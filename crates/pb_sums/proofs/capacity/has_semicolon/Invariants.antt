use Rattle.{pb_sums.proofs.Common.◌≡◌, pb_sums.proofs.Common.false, pb_sums.proofs.Common.take, pb_sums.proofs.Common.Each, std.specs.Prelude.◌≢◌}
use Rattle.pb_sums.proofs.capacity.has_semicolon.Given as goal

-- no byte so far is a `;`, if none was found
abbrev pub invariant-loop-byte : goal.invariant-loop-byte
invariant-loop-byte l = l.found ≡ false → Each (λ b. b ≢ 59) (take l.byte-index l.text)
