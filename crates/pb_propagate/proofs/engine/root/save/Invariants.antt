use Rattle.pb_propagate.proofs.Common.{◌≡◌, length, List, IsUndone, Shape}
use Rattle.pb_propagate.proofs.engine.root.save.Given as goal

abbrev pub invariant-forms : goal.invariant-forms
invariant-forms l = record {
  run : l.run ≡ l.initial.run;
  opens : length l.rests.opens ≡ length l.run.opens;
  starts : length l.rests.starts ≡ length l.run.candidates;
  undone : (forms : List Shape) × (length forms ≡ length l.run.opens) × IsUndone l.rests forms l.run.opens l.run.candidates l.run.trail.items l.i;
}
