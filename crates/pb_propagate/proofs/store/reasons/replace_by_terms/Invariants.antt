use Rattle.pb_propagate.proofs.Common.{stored_terms, ℕ, ◌<◌, get_or, Term, shapes_of, IsDue, HasOtherReasons}
use Rattle.pb_propagate.proofs.store.reasons.replace_by_terms.Given as goal

abbrev pub invariant-terms : goal.invariant-terms
invariant-terms l = record {
  reasons : HasOtherReasons (shapes_of l.store.stored.items) l.slot l.initial.assignment l.assignment;
  needless : (k : ℕ) (d : Term) → k < l.i → IsDue l.slot l.assignment.list.items l.assignment.reasons.items (get_or (stored_terms l.kept) k d).literal → ⊥;
}
