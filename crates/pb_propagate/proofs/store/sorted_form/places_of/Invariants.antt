use Rattle.pb_propagate.proofs.Common.{◌≡◌, map, take}
use Rattle.pb_propagate.proofs.store.sorted_form.places_of.Given as goal

abbrev pub invariant-ranks : goal.invariant-ranks
invariant-ranks l = l.places.items ≡ map (λ r. r.place) (take l.i l.ranks)
