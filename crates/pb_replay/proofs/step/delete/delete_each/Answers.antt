use Rattle.pb_replay.proofs.{Common.to_z-of_z, Common.arith, lemmas.rules.Live.stops, lemmas.rules.Live.goes-on}
use Rattle.pb_replay.proofs.step.delete.delete_each.Goals as goal

pub returns-in-None-clause-err : goal.returns-in-None-clause-err
returns-in-None-clause-err c = grind (arith, c.loop-id.invariant.0, stops, to_z-of_z, c.loop-id-test.true, c.in-None.is, c.find.ensures.none)

pub loop-id-preserved : goal.loop-id-preserved
loop-id-preserved c = grind (arith, c.loop-id.invariant.0, goes-on, to_z-of_z, c.loop-id-test.true, c.in-Some.ensures.some, c.remove.ensures.forms, c.place_of-at.ensures, c.len.ensures, c.remove.ensures.variables, c.loop-id.invariant, c.remove.ensures.ready)
