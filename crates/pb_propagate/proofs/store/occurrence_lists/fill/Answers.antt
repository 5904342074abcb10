use Rattle.pb_propagate.proofs.Common.{arith, get_or, shapes_of, stored_terms}
use Rattle.pb_propagate.proofs.lemmas.{engine.Runs.place-inside, store.Changes.filled-stored, store.Changes.kept-inside, store.Links.entries-length}
use Rattle.pb_propagate.proofs.store.occurrence_lists.fill.Goals as goal

pub link-requires-clause-inside : goal.link-requires-clause-inside
link-requires-clause-inside c = λ k d h.
    let store = c.args.store.now in
    let ts = stored_terms c.in_ok-kept.kept in
    let variable = kept-inside ts c.args.form.terms store.variables c.in_ok-kept.ensures.is.terms c.requires.inside in
    omega (arith, place-inside (get_or ts k d).literal store.variables (variable k d h), c.requires.sound.places, entries-length (shapes_of store.stored.items) store.occurrences)

pub returns-clause-sound : goal.returns-clause-sound
returns-clause-sound c =
    let store = c.args.store.now in let k = c.in_ok-kept.kept in
    let inside = kept-inside (stored_terms k) c.args.form.terms store.variables c.in_ok-kept.ensures.is.terms c.requires.inside in
    rw c.set.ensures (filled-stored store.stored.items k store.spots c.link.new.spots store.occurrences c.link.new.lists store.variables c.args.slot
    c.requires.slot c.requires.empty c.in_ok-link.ensures.sizes
    c.in_ok-link.ensures.count inside c.in_ok-link.ensures.linked c.requires.sound)
