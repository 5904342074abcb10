use Rattle.pb_propagate.proofs.Common.{◌≡◌, arith, cut, length-map, refl, shapes_of, spots_in, stored_shape, set_past, length}
use Rattle.pb_propagate.proofs.lemmas.store.Changes.{emptied-push, emptied-stored}
use Rattle.pb_propagate.proofs.store.occurrence_lists.widen.Goals as goal

pub returns-clause-sound : goal.returns-clause-sound
returns-clause-sound c =
    let store = c.args.store.now in let keep = store.stored.items in let old = c.requires.sound in
    let sizes : length store.spots ≡ length keep = omega (arith, old.whole.sizes, length-map store.spots spots_in, length-map keep stored_shape) in
    let uncut : cut (shapes_of keep) (length keep) 0 ≡ shapes_of keep = set_past (shapes_of keep) (length keep) _ (omega (arith, length-map keep stored_shape)) in
    let emptied = emptied-push c.empty_stored.result c.in_ok-push.ensures.items c.in_ok-push_empty.ensures.ok c.empty_stored.ensures.terms sizes in
    emptied-stored store.spots store.occurrences store.occurrences emptied refl (λ s. refl) (rw uncut old.whole) old
