use Rattle.pb_propagate.proofs.Common.{◌+◌, ◌-◌, ◌<◌, ◌≡◌, [], ap, arith, get_or, get_or-map, length, length-set, refl, slice_get, Some}
use Rattle.pb_propagate.proofs.lemmas.store.Links.{taken-last, spots-moved}
use Rattle.pb_propagate.specs.declared.store.spots.Spots.TheVariants.{Empty}
use Rattle.std.proofs.lemmas.List.{set-set}
use Rattle.std.proofs.lemmas.Option.{slice_get_read}
use Rattle.pb_propagate.specs.engine.engine.Spots.{spots_in}
use Rattle.pb_propagate.proofs.store.occurrence_lists.take_out.Goals.{In-Some}
use Rattle.pb_propagate.proofs.store.occurrence_lists.take_out.Goals as goal

-- the entry that moves
moves : (c : In-Some) → (c.args.spot + 1 < length (get_or c.args.lists.now c.args.place [])) ×
    (slice_get (get_or c.args.lists.now c.args.place []) (length (get_or c.args.lists.now c.args.place []) - 1) ≡ Some c.in-Some.moved)
moves c =
    let end = rw c.in-Some.is at c.swap_remove-removed.ensures.some in
    let es = get_or c.args.lists.now c.args.place [] in
    (end.0, slice_get_read es _ (length es - 1) c.in-Some.moved refl (omega (arith, end.0)) (end.1 c.in-Some.moved))

pub returns-in-Some-clause-lists : goal.returns-in-Some-clause-lists
returns-in-Some-clause-lists c = (c.swap_remove-removed.result.item, c.swap_remove-removed.ensures.item c.swap_remove-removed.result.item, c.swap_remove-removed.ensures.lists)

pub returns-in_default-clause-lists : goal.returns-in_default-clause-lists
returns-in_default-clause-lists c = (c.swap_remove-removed.result.item, c.swap_remove-removed.ensures.item c.swap_remove-removed.result.item, c.swap_remove-removed.ensures.lists)

pub returns-in_default-clause-spots : goal.returns-in_default-clause-spots
returns-in_default-clause-spots c =
    taken-last (get_or c.args.lists.now c.args.place []) c.args.spot _ (rw c.in_default.is at c.swap_remove-removed.ensures.none)

pub take-kept-requires : goal.take-kept-requires
take-kept-requires c =
    let m = moves (goal.at.take-kept-requires c).In-Some in
    (c.requires.named c.in-Some.moved m.1).0

pub set-requires : goal.set-requires
set-requires c =
    let m = moves (goal.at.set-requires c).In-Some in
    let named = c.requires.named c.in-Some.moved m.1 in
    omega (arith, named.1, ap length (get_or-map spots_in c.args.spots.now c.in-Some.moved.form c.take-kept.result [] named.0), ap (λ w. length (spots_in w)) (c.take-kept.ensures.was c.take-kept.result))

pub set-requires-in-Some : goal.set-requires-in-Some
set-requires-in-Some c =
    let m = moves (goal.at.set-requires-in-Some c).In-Some in
    omega (arith, (c.requires.named c.in-Some.moved m.1).0, ap length c.take-kept.ensures.zero, length-set c.args.spots.now c.in-Some.moved.form Empty)

pub returns-in-Some-clause-spots : goal.returns-in-Some-clause-spots
returns-in-Some-clause-spots c =
    let m = moves (goal.at.returns-in-Some-clause-spots c).In-Some in
    let named = c.requires.named c.in-Some.moved m.1 in
    rw (c.set-in-Some.ensures, c.take-kept.ensures.zero, set-set c.args.spots.now c.in-Some.moved.form Empty c.set.new.self)
    (spots-moved c.args.spots.now (get_or c.args.lists.now c.args.place []) c.args.spot c.in-Some.moved c.take-kept.result c.set.new.self named.0 (c.take-kept.ensures.was c.take-kept.result) c.set.ensures m.0 m.1)
