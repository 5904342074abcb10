use Rattle.pb_propagate.proofs.{Common.ap, Common.arith, Common.length, Common.shapes_of, Common.Term, lemmas.engine.Runs.place-inside}
use Rattle.pb_propagate.proofs.lemmas.{root.Retracted.terms-inside, store.Links.entries-length}
use Rattle.pb_propagate.proofs.engine.root.Root.note.Goals as goal

pub place_of-place-requires : goal.place_of-place-requires
place_of-place-requires c =
    let store = c.args.store.now in let only = c.in-Some.ensures.some in
    let t : Term = record { literal = c.in-Some.literal; coefficient = only.0 } in
    let all = terms-inside store c.args.slot c.index.result.now c.requires.sound c.requires.slot c.index.ensures 0 t (omega (arith, ap length only.1)) in
    let inside = place-inside c.in-Some.literal store.variables (rw only.1 at all) in
    omega (arith, inside, c.requires.sound.places, entries-length (shapes_of store.stored.items) store.occurrences, c.len.ensures, c.len.type_inv)

pub overflow_add-place : goal.overflow_add-place
overflow_add-place c =
    let store = c.args.store.now in let only = c.in-Some.ensures.some in
    let t : Term = record { literal = c.in-Some.literal; coefficient = only.0 } in
    let all = terms-inside store c.args.slot c.index.result.now c.requires.sound c.requires.slot c.index.ensures 0 t (omega (arith, ap length only.1)) in
    let inside = place-inside c.in-Some.literal store.variables (rw only.1 at all) in
    omega (arith, c.place_of-place.ensures, inside, c.requires.sound.places, entries-length (shapes_of store.stored.items) store.occurrences, c.len.ensures, c.len.type_inv)
