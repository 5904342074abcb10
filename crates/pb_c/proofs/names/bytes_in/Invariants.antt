use Rattle.pb_c.proofs.Common.{◌-◌, ◌^◌, ◌≡◌, length, min, take, joined}
use Rattle.pb_c.proofs.names.bytes_in.Given as goal

abbrev pub invariant-names : goal.invariant-names
invariant-names l = l.count ≡ min (length (joined (take l.number l.names))) (2 ^ 64 - 1)
