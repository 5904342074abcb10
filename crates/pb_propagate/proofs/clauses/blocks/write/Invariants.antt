use Rattle.pb_propagate.proofs.Common.{ℕ, ◌+◌, ◌<◌, ◌≡◌, ◌≤◌, ◌⊎◌, length, number_at}
use Rattle.pb_propagate.proofs.clauses.blocks.write.Given as goal

abbrev pub invariant-literals : goal.invariant-literals
invariant-literals l = record {
  size : length l.words.items ≡ length l.initial.words.items;
  outside : (i : ℕ) → (i < l.fn.start) ⊎ (l.fn.start + length l.literals ≤ i) → number_at l.words.items i ≡ number_at l.initial.words.items i;
  inside : (k : ℕ) → k < l.k → number_at l.words.items (l.fn.start + k) ≡ number_at l.literals k;
}
