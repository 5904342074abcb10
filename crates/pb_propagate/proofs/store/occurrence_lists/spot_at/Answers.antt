use Rattle.pb_propagate.proofs.Common.{[], ap, arith, get_or-map, length, spots_in}
use Rattle.pb_propagate.specs.declared.store.spots.Spots.TheVariants.{Empty}
use Rattle.pb_propagate.proofs.store.occurrence_lists.spot_at.Goals as goal

pub get-requires : goal.get-requires
get-requires c =
    let spots = c.args.spots.now in let kept = c.in-Some.kept.now in
    omega (arith, c.requires.index, ap length (get_or-map spots_in spots c.args.form kept [] c.requires.form), ap (λ w. length (spots_in w)) (rw c.in-Some.is at c.peek.ensures.some kept))

pub unreachable-requires : goal.unreachable-requires
unreachable-requires c =
    let spots = c.args.spots.now in
    omega (arith, c.requires.index, ap length (get_or-map spots_in spots c.args.form Empty [] c.requires.form), ap (λ w. length (spots_in w)) (rw c.in-None.is at c.peek.ensures.none Empty))
