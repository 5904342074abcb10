use Rattle.pb_sums.proofs.Common.{◌-◌, ◌^◌, ◌≡◌, min, take, units}
use Rattle.pb_sums.proofs.units.count_units.Given as goal

abbrev pub invariant-loop-term : goal.invariant-loop-term
invariant-loop-term l = l.count ≡ min (units (take l.term-index l.terms)) (2 ^ 64 - 1)
