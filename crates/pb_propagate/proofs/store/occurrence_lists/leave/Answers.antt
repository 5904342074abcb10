use Rattle.pb_propagate.proofs.Common.{◌∙◌, ◌+◌, ◌-◌, ◌≡◌, ap, arith, Global, length, take, Vec, length-map, StoredForm, shapes_of, spots_in, stored_shape}
use Rattle.pb_propagate.proofs.lemmas.store.{Changes.emptied-take, Changes.emptied-stored, Links.cut-length}
use Rattle.pb_propagate.proofs.store.occurrence_lists.leave.Goals as goal

pub returns-clause-sound : goal.returns-clause-sound
returns-clause-sound c =
    let store = c.args.store.now in let less = c.unlink.new.store in let keep = store.stored.items in
    let number = c.len-number.result - 1 in
    let same = ap (λ (v : Vec StoredForm Global). v.items) c.unlink.ensures.kept in
    let linked = rw same at c.unlink.ensures.linked in
    let count : length keep ≡ number + 1 = omega (arith, c.requires.some, c.len-number.ensures, store.stored.ok.0) in
    let sizes : length less.spots ≡ length keep =
    omega (arith, linked.sizes, cut-length (shapes_of keep) number 0, length-map keep stored_shape, length-map less.spots spots_in) in
    let kept : c.pop.new.self.items ≡ take number keep = grind (arith, c.pop.ensures.rest, same, count, less.stored.ok.0) in
    let spots : c.pop-4.new.self ≡ take number less.spots = c.pop-4.ensures ∙ ap (λ n. take n less.spots) (omega (arith, sizes, count)) in
    let emptied = emptied-take kept spots sizes count in
    rw c.unlink.ensures.variables
    (emptied-stored store.spots less.occurrences store.occurrences emptied c.unlink.ensures.lists c.unlink.ensures.rooms linked c.requires.sound)
