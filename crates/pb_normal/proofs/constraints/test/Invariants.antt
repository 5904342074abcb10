use Rattle.pb_normal.proofs.Common.{take, largest, Fits, All}
use Rattle.pb_normal.proofs.constraints.test.Given as goal

-- the constraints so far fit
abbrev pub invariant-loop-tested : goal.invariant-loop-tested
invariant-loop-tested l = All (Fits (largest l.limits)) (take l.tested-index l.constraints)
