use Rattle.pb_propagate.proofs.Common.{◌-◌, ◌≡◌, length, list_at, watch_lists, all_of, database, RunIsOpen, progress, RunReasons, StaysTidy}
use Rattle.pb_propagate.proofs.lemmas.clauses.Walks.{IsWalking}
use Rattle.pb_propagate.proofs.walk.walk.Given as goal

abbrev pub invariant-watches : goal.invariant-watches
invariant-watches l = record {
  reasons : RunReasons (all_of l.store l.initial.clauses) l.initial.run l.run;
  walking : IsWalking (database l.store l.rests) l.initial.clauses l.clauses l.literal l.index (progress l.initial.run) (progress l.run);
  candidates : l.run.candidates ≡ l.initial.run.candidates;
  sums : RunIsOpen l.store l.run;
  tidy : StaysTidy (database l.store l.rests) (progress l.initial.run) (progress l.run);
}

abbrev pub decreases-watches : goal.decreases-watches
decreases-watches l = length (list_at (watch_lists l.clauses.lists) l.literal) - l.index
