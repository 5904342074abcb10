use Rattle.std.proofs.Common.{◌≡◌, ◌++◌, take, drop}
use Rattle.pb_propagate.proofs.lists.copy_part.Given as goal

abbrev pub invariant-items : goal.invariant-items
invariant-items g l = l.items.items ≡ l.fn.items.items ++ take l.k (drop l.fn.part.start l.fn.items.items)
