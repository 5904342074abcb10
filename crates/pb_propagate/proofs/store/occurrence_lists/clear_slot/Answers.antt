use Rattle.pb_propagate.proofs.Common.{◌≡◌, ap, arith, length, set, Global, length-map, refl, shapes_of, spots_in, Vec, StoredForm, stored_shape}
use Rattle.pb_propagate.proofs.lemmas.store.{Changes.IsEmptied, Changes.emptied-set, Changes.emptied-stored, Links.cut-length}
use Rattle.pb_propagate.proofs.store.occurrence_lists.clear_slot.Goals as goal

pub returns-clause-sound : goal.returns-clause-sound
returns-clause-sound c =
    let store = c.args.store.now in let less = c.unlink.new.store in let keep = store.stored.items in
    let same = ap (λ (v : Vec StoredForm Global). v.items) c.unlink.ensures.kept in
    let linked = rw same at c.unlink.ensures.linked in
    let sizes : length less.spots ≡ length keep =
    omega (arith, linked.sizes, cut-length (shapes_of keep) c.args.form 0, length-map keep stored_shape, length-map less.spots spots_in) in
    let emptied : IsEmptied keep (set keep c.args.form c.empty_stored.result) less.spots c.set_empty.new.self c.args.form =
    emptied-set c.empty_stored.result refl c.set_empty.ensures c.empty_stored.ensures.terms sizes c.requires.form in
    rw (c.unlink.ensures.variables, same, c.replace-kept.ensures.after)
    (emptied-stored store.spots less.occurrences store.occurrences emptied c.unlink.ensures.lists c.unlink.ensures.rooms linked c.requires.sound)
