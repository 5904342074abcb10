use Rattle.pb_propagate.proofs.Common.{ℕ, ◌<◌, get_or, literal_at, shapes_of, IsDue, HasOtherReasons}
use Rattle.pb_propagate.proofs.clauses.reasons.replace_by_codes.Given as goal

abbrev pub invariant-literals : goal.invariant-literals
invariant-literals l = record {
  reasons : HasOtherReasons (shapes_of l.store.stored.items) l.slot l.initial.assignment l.assignment;
  needless : (k d : ℕ) → k < l.i → IsDue l.slot l.assignment.list.items l.assignment.reasons.items (literal_at (get_or l.codes k d)) → ⊥;
}
