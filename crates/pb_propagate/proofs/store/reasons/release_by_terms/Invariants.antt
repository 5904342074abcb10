use Rattle.pb_propagate.proofs.Common.{stored_terms, ℕ, ◌<◌, get_or, Term, IsDue}
use Rattle.pb_propagate.specs.engine.engine.Refreshed.{IsReleased}
use Rattle.pb_propagate.proofs.store.reasons.release_by_terms.Given as goal

abbrev pub invariant-terms : goal.invariant-terms
invariant-terms l = record {
  released : IsReleased l.store l.slot l.initial.root l.root;
  needless : (k : ℕ) (d : Term) → k < l.i → IsDue l.slot l.root.run.assignment.list.items l.root.run.assignment.reasons.items (get_or (stored_terms l.kept) k d).literal → ⊥;
}
