use Rattle.pb_propagate.proofs.Common.{◌≡◌, length, IsUndone, shapes_of}
use Rattle.pb_propagate.proofs.run.undo_forms.Given as goal

abbrev pub invariant-forms : goal.invariant-forms
invariant-forms l = record {
  opens : length l.run.opens ≡ length l.store.stored.items;
  candidates : length l.run.candidates ≡ length l.store.stored.items;
  work : l.run.work ≡ l.initial.run.work;
  trail : l.run.trail ≡ l.initial.run.trail;
  visits : l.run.visits ≡ l.initial.run.visits;
  assignment : l.run.assignment ≡ l.initial.run.assignment;
  undone : IsUndone l.rests (shapes_of l.store.stored.items) l.run.opens l.run.candidates l.initial.run.trail.items l.i;
}
