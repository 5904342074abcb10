use Rattle.pb_propagate.proofs.Common.{ℕ, ◌-◌, ◌<◌, ◌≡◌, ◌≤◌, ◌⊎◌, get_or, length, true, IsRound, turned, false_at}
use Rattle.pb_propagate.proofs.clauses.search.Search.advance.Given as goal

abbrev pub decreases-literals : goal.decreases-literals
decreases-literals l = length l.literals - l.at.passed

abbrev pub invariant-literals : goal.invariant-literals
invariant-literals l = record {
  position : l.at.position < length l.literals;
  within : l.at.passed ≤ length l.literals;
  after : l.fn.self.passed ≤ l.at.passed;
  round : (start : ℕ) → IsRound start l.fn.self (length l.literals) → IsRound start l.at (length l.literals);
  passed : (start k d : ℕ) → IsRound start l.fn.self (length l.literals) → l.fn.self.passed ≤ k → k < l.at.passed → (false_at l.assignment.values.items (get_or (turned start l.literals) k d) ≡ true) ⊎ (get_or (turned start l.literals) k d ≡ l.other);
  unread : l.visits ≡ l.initial.visits;
}
