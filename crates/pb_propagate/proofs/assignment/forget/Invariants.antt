use Rattle.pb_propagate.proofs.{Common.◌≡◌, Common.drop, Common.length, Common.AreMarked, lemmas.engine.Literals.Forgotten}
use Rattle.pb_propagate.proofs.assignment.forget.Given as goal

abbrev pub invariant-list : goal.invariant-list
invariant-list l = record {
  sizes : length l.values.items ≡ length l.initial.values.items;
  forgotten : Forgotten l.values.items (drop l.literal-index l.list);
  marked : AreMarked l.values.items l.failed.items;
}
