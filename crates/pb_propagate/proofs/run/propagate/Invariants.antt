use Rattle.pb_propagate.proofs.Common.{◌*◌, ◌+◌, ◌-◌, ◌≤◌, length, sum_by, Grows, KeepsWalked, all_of, entries_of, shapes_of, database, progress}
use Rattle.pb_propagate.proofs.Common.{RunReasons, seen_to}
use Rattle.pb_propagate.proofs.lemmas.{clauses.Heads.IsMarking, clauses.Heads.IsWatching, clauses.Heads.cost, engine.Propagated.IsPropagating}
use Rattle.pb_propagate.proofs.run.propagate.Given as goal

abbrev pub invariant-work : goal.invariant-work
invariant-work l = record {
  taken : l.taken ≤ length l.waiting;
  watching : IsWatching l.initial.clauses l.clauses l.run.assignment.values.items l.run.assignment.list.items l.heads;
  grows : Grows l.initial.run.assignment.values.items l.run.assignment.values.items;
  kept : KeepsWalked l.initial.run.assignment.values.items l.initial.clauses l.clauses;
  reasons : RunReasons (all_of l.store l.initial.clauses) l.initial.run l.run;
  marking : IsMarking l.initial.clauses l.clauses l.initial.run.assignment.list.items l.run.assignment.list.items l.initial.marks.items l.marks.items l.marked l.heads;
  state : IsPropagating (record {
    base = database l.store l.rests;
    waiting = l.waiting;
    count = length l.store.stored.items;
    before = seen_to l.initial.clauses l.fn.from l.initial.run.assignment.list.items;
    start = progress l.initial.run;
  }) (cost l.initial.clauses l.clauses l.heads l.run.assignment.list.items) l.taken (progress l.run);
}

abbrev pub decreases-work : goal.decreases-work
decreases-work l = (length l.initial.run.work.items + length l.waiting + sum_by length (entries_of (shapes_of l.store.stored.items) l.store.occurrences) + length l.waiting + 2 * length l.initial.run.assignment.values.items) - (l.run.next + l.taken + (l.heads.short + l.heads.long))
