use Rattle.pb_proof.proofs.Common.{◌-◌, ◌^◌, ◌≡◌, min, take, units}
use Rattle.pb_proof.proofs.line.pol.change.count_units.Given as goal

abbrev pub invariant-loop-word : goal.invariant-loop-word
invariant-loop-word l = l.count ≡ min (units (take l.word-index l.words)) (2 ^ 64 - 1)
