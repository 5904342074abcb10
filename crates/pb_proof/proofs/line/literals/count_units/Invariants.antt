use Rattle.pb_proof.{proofs.Common.◌-◌, proofs.Common.◌^◌, proofs.Common.◌≡◌, proofs.Common.min, proofs.Common.take, specs.engine.line.Literals.units}
use Rattle.pb_proof.proofs.line.literals.count_units.Given as goal

abbrev pub invariant-loop-literal : goal.invariant-loop-literal
invariant-loop-literal l = l.count ≡ min (units (take l.literal-index l.literals)) (2 ^ 64 - 1)
