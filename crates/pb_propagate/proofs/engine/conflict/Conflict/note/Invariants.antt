use Rattle.pb_propagate.proofs.Common.{◌≡◌, length, take, KeepsReasons}
use Rattle.pb_propagate.proofs.engine.conflict.Conflict.note.Given as goal

abbrev pub invariant-literals : goal.invariant-literals
invariant-literals l = record {
  values : length l.self.assignment.values.items ≡ length l.found.values.items;
  list : l.self.assignment.list.items ≡ take l.i l.found.list.items;
  reasons : KeepsReasons (take l.i l.found.list.items) l.found.reasons.items l.self.assignment.reasons.items;
}
