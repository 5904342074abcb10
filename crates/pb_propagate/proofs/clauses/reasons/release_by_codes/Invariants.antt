use Rattle.pb_propagate.proofs.Common.{ℕ, ◌<◌, get_or, literal_at, IsDue}
use Rattle.pb_propagate.specs.engine.engine.Refreshed.{IsReleased}
use Rattle.pb_propagate.proofs.clauses.reasons.release_by_codes.Given as goal

abbrev pub invariant-literals : goal.invariant-literals
invariant-literals l = record {
  released : IsReleased l.store l.slot l.initial.root l.root;
  needless : (k d : ℕ) → k < l.i → IsDue l.slot l.root.run.assignment.list.items l.root.run.assignment.reasons.items (literal_at (get_or l.codes k d)) → ⊥;
}
