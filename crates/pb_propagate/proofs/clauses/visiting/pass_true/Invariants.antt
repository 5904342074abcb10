use Rattle.pb_propagate.proofs.Common.{ℕ, ◌-◌, ◌≡◌, ◌≤◌, length, List, list_at, watch_lists}
use Rattle.pb_propagate.specs.engine.clauses.Runs.{IsServedTo}
use Rattle.pb_propagate.proofs.clauses.visiting.pass_true.Given as goal

abbrev pub decreases-entries : goal.decreases-entries
decreases-entries l = length (list_at (watch_lists l.clauses.lists) l.literal) - l.index

abbrev pub invariant-entries : goal.invariant-entries
invariant-entries l = record {
  same : l.visits ≡ l.initial.visits;
  after : l.from ≤ l.index;
  within : l.index ≤ length (list_at (watch_lists l.clauses.lists) l.literal);
  served : (walked : List ℕ) → IsServedTo l.assignment.values.items l.clauses walked l.literal l.from → IsServedTo l.assignment.values.items l.clauses walked l.literal l.index;
}
