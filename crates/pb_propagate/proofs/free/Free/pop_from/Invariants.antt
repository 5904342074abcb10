use Rattle.pb_propagate.proofs.Common.{◌≡◌}
use Rattle.pb_propagate.proofs.free.Free.pop_from.Given as goal

abbrev pub invariant-sizes : goal.invariant-sizes
invariant-sizes l = l.self ≡ l.fn.self
