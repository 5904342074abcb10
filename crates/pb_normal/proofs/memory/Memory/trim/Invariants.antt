use Rattle.std.proofs.Common.{◌≡◌, ◌-◌, ◌^◌, sum_by, take, min}
use Rattle.std.specs.Vec.{vec_capacity}
use Rattle.pb_normal.proofs.memory.Memory.trim.Given as goal

abbrev pub invariant-lists : goal.invariant-lists
invariant-lists l = l.room ≡ min (sum_by vec_capacity (take l.i l.self-inside.lists.items)) (2 ^ 64 - 1)
