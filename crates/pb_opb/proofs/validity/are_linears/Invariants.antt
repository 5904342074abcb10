use Rattle.pb_opb.proofs.Common.{◌↔◌, drop, largest, AreLinears}
use Rattle.pb_opb.proofs.validity.are_linears.Given as goal

-- all meet the rules if the rest do
abbrev pub invariant-loop-linear : goal.invariant-loop-linear
invariant-loop-linear l = AreLinears (largest l.limits) l.constraints ↔ AreLinears (largest l.limits) (drop l.linear-index l.constraints)
