use Rattle.pb_propagate.proofs.Common.{ℕ, ◌<◌, ◌∷◌, ◌≡◌, ◌≤◌, [], get_or, length, true, Entry, negation, denial_of, as_term, Derives, has}
use Rattle.pb_propagate.proofs.Common.{progress, RunIsOpen, RunPuts, VisitsEach}
use Rattle.pb_propagate.proofs.engine.denial.deny_all.Given as goal

abbrev pub invariant-literals : goal.invariant-literals
invariant-literals l = record {
  within : l.i ≤ length l.goal;
  puts : RunPuts l.store l.rests l.i l.initial.run l.run;
  candidates : l.run.candidates ≡ l.initial.run.candidates;
  sums : RunIsOpen l.store l.run;
  derived : Derives (denial_of l.goal ∷ []) l.initial.run.assignment.list.items l.run.assignment.list.items;
  denied : (k : ℕ) (d : Entry) → k < l.i → has l.run.assignment.list.items (negation (as_term (get_or l.goal k d)).literal) ≡ true;
  found : VisitsEach (progress l.initial.run) (progress l.run);
}
