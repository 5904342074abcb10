use Rattle.pb_propagate.proofs.{Common.arith, Common.length-map, lemmas.engine.Propagated.shape-at}
use Rattle.pb_propagate.proofs.store.units.other_unit.Goals as goal

pub returns : goal.returns
returns c =
    let found = rw c.deref.ensures.value at c.in_ok-kept.ensures.lookup in
    let its = c.is_unit.ensures c.if-not-is_unit.false in
    grind (arith, c.if-unit-slot.false, found.3.0, found.1, length-map, shape-at, its.0, its.1)
