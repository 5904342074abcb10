use Rattle.std.proofs.Common.{◌≡◌, ◌++◌, replicate, vec_capacity}
use Rattle.pb_propagate.proofs.column.fill.Given as goal

abbrev pub invariant-items : goal.invariant-items
invariant-items g l = (l.items.items ≡ l.fn.items.items ++ replicate l.counter g.T.Zero.zero) × (vec_capacity l.items ≡ vec_capacity l.fn.items)
