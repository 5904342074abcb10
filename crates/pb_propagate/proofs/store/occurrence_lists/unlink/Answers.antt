use Rattle.pb_propagate.proofs.Common.{◌-◌, ◌≡◌, ◌∙◌, [], arith, get_or, refl, length-map, place, shapes_of, spots_in, spots_of}
use Rattle.pb_propagate.proofs.lemmas.store.Links.{UnlinkRead, unlink-inside, unlink-read, moved-rooms, taken-length}
use Rattle.pb_propagate.proofs.store.occurrence_lists.unlink.Goals.{After-place_of-place}
use Rattle.pb_propagate.proofs.store.occurrence_lists.unlink.Goals as goal

pub spot_at-spot-requires : goal.spot_at-spot-requires
spot_at-spot-requires c =
    let inside = unlink-inside c.requires.sound c.terms.invariant (omega (arith, c.terms-test.true)) c.requires.form in
    record { form = inside.0; index = inside.1 }

pub place_of-place-requires : goal.place_of-place-requires
place_of-place-requires c =
    let read = unlink-read c.index-in-terms.result.now c.term-term.result c.spot_at-spot.ensures.0 c.spot_at-spot.result (place c.term-term.result.literal) c.requires.sound c.terms.invariant (omega (arith, c.terms-test.true)) c.requires.form c.index-in-terms.ensures (c.term-term.ensures c.term-term.result) c.spot_at-spot.ensures.1 c.spot_at-spot.ensures.2 refl in
    omega (arith, read.room, c.terms.invariant.lists, c.len.ensures)

-- what was read of the last term that is left
read : (c : After-place_of-place) → UnlinkRead (shapes_of c.args.store.now.stored.items) (spots_of c.terms.store.spots) c.terms.store.occurrences c.args.form (c.terms.left - 1) c.spot_at-spot.result c.place_of-place.result
read c = unlink-read c.index-in-terms.result.now c.term-term.result c.spot_at-spot.ensures.0 c.spot_at-spot.result c.place_of-place.result c.requires.sound c.terms.invariant (omega (arith, c.terms-test.true)) c.requires.form c.index-in-terms.ensures (c.term-term.ensures c.term-term.result) c.spot_at-spot.ensures.1 c.spot_at-spot.ensures.2 c.place_of-place.ensures.place

pub take_out-requires : goal.take_out-requires
take_out-requires c =
    let r = read (goal.at.take_out-requires c).After-place_of-place in
    record { place = r.room; spot = r.spot_in; named = λ e h. (omega (arith, (r.named e h).0, length-map c.terms.store.spots spots_in), (r.named e h).1) }

pub terms-preserved : goal.terms-preserved
terms-preserved c =
    let now = c.terms.store in let done = c.take_out.new in
    record {
      stored = c.terms.invariant.stored;
      variables = c.terms.invariant.variables;
      lists = taken-length now.occurrences done.lists c.place_of-place.result c.spot_at-spot.result c.take_out.ensures.lists ∙ c.terms.invariant.lists;
      within = omega (arith, c.terms.invariant.within);
      rooms = λ s. moved-rooms (get_or now.occurrences c.place_of-place.result []) c.spot_at-spot.result (spots_of now.spots) (spots_of done.spots) c.take_out.ensures.spots s ∙ c.terms.invariant.rooms s;
      linked = (read (goal.at.terms-preserved c).After-place_of-place).next (spots_of done.spots) done.lists c.take_out.ensures.lists c.take_out.ensures.spots;
    }

pub returns-clause-linked : goal.returns-clause-linked
returns-clause-linked c =
    let none_left : c.terms.left ≡ 0 = omega (arith, c.terms-test.false) in
    rw c.terms.invariant.stored (rw none_left at c.terms.invariant.linked)
