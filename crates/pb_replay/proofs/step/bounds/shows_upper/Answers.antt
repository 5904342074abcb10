use Rattle.pb_replay.proofs.Common.{FitsSigned, rules, to_z-of_z, w128, arith}
use Rattle.pb_replay.proofs.lemmas.conclusions.Bounding.{upper-reached, upper-shown}
use Rattle.pb_replay.proofs.step.bounds.shows_upper.Goals as goal

pub returns-in-None : goal.returns-in-None
returns-in-None c = grind (arith, c.in-Finite.is, c.in-None.is, upper-reached, to_z-of_z, c.is_reached.ensures)

pub returns-in-Some : goal.returns-in-Some
returns-in-Some c =
    let fits : FitsSigned w128 c.in-Finite.bound = search rules in
    rw (c.in-Finite.is, c.in-Some.is) (upper-shown c.args.running.now c.in-Some.given.items c.in-Finite.bound c.shown_reaches.result (rw (c.as_slice.ensures.value, to_z-of_z w128 c.in-Finite.bound fits) at c.shown_reaches.ensures))
