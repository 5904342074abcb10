use Rattle.pb_propagate.proofs.{Common.◌≡◌, Common.database, Common.entries_against, Common.progress, lemmas.engine.Runs.IsPutting}
use Rattle.pb_propagate.proofs.run.put.Given as goal

abbrev pub invariant-entries : goal.invariant-entries
invariant-entries l = record {
  assignment : l.run.assignment ≡ l.initial.run.assignment;
  candidates : l.run.candidates ≡ l.initial.run.candidates;
  next : l.run.next ≡ l.initial.run.next;
  putting : IsPutting (database l.store l.rests) (entries_against (database l.store l.rests) l.fn.literal) (progress l.initial.run) (progress l.run) l.j;
}
