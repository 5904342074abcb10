use Rattle.pb_propagate.proofs.Common.{[], stored_terms, ◌-◌, get_or, length, shapes_of, database, IsCounted, progress, RunReasons}
use Rattle.pb_propagate.proofs.lemmas.engine.Propagated.{IsVisiting}
use Rattle.pb_propagate.proofs.run.visit_form.Given as goal

abbrev pub invariant-terms : goal.invariant-terms
invariant-terms l = record {
  counted : IsCounted (shapes_of l.store.stored.items) l.run.opens l.run.assignment.list.items [];
  reasons : RunReasons (shapes_of l.store.stored.items) l.initial.run l.run;
  in_visit : IsVisiting (database l.store l.rests) l.waiting l.form (progress l.initial.run) (progress l.run);
}

abbrev pub decreases-terms : goal.decreases-terms
decreases-terms l = length (stored_terms l.kept) - get_or l.run.candidates l.form 0
