use Rattle.pb_propagate.proofs.Common.{ℕ, ◌<◌, ◌≡◌, [], length, List, set, AreLonger, entries_of, cut, IsLinked, terms_at, Shape, stored_terms}
use Rattle.pb_propagate.specs.engine.engine.Spots.{spots_in}
use Rattle.pb_propagate.proofs.store.occurrence_lists.link.Given as goal

abbrev pub invariant-terms : goal.invariant-terms
invariant-terms l = record {
  sizes : length l.lists ≡ length l.initial.lists;
  longer : AreLonger l.initial.lists l.lists;
  count : length (spots_in l.spots) ≡ l.i;
  linked : (base : List Shape) (all : List (List ℕ)) → l.form < length base → terms_at base l.form ≡ stored_terms l.kept → l.form < length all → IsLinked (cut base l.form 0) (set all l.form []) (entries_of base l.initial.lists) → IsLinked (cut base l.form l.i) (set all l.form (spots_in l.spots)) (entries_of base l.lists);
}
