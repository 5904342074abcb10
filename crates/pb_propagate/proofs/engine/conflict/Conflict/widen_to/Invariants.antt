use Rattle.pb_propagate.proofs.Common.{◌≡◌, length}
use Rattle.pb_propagate.proofs.engine.conflict.Conflict.widen_to.Given as goal

abbrev pub invariant-variables : goal.invariant-variables
invariant-variables l = record {
  values : length l.self.assignment.values.items ≡ l.counter;
  list : l.self.assignment.list.items ≡ l.initial.self.assignment.list.items;
}
