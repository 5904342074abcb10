use Rattle.pb_replay.proofs.{Common.FitsSigned, Common.rules, Common.to_z-of_z, Common.w128, lemmas.conclusions.Bounding.lower-infinite}
use Rattle.pb_replay.proofs.step.bounds.shows_lower.Goals as goal

pub returns-in-Infinite-clause-lower : goal.returns-in-Infinite-clause-lower
returns-in-Infinite-clause-lower c = rw c.in-Infinite.is (lower-infinite c.args.running.now c.args.id c.none_is_left.result c.none_is_left.ensures.left)

pub returns-in-Finite-clause-lower : goal.returns-in-Finite-clause-lower
returns-in-Finite-clause-lower c =
    let fits : FitsSigned w128 c.in-Finite.bound = search rules in
    rw c.in-Finite.is (rw (to_z-of_z w128 c.in-Finite.bound fits) at c.shows_finite.ensures.lower)
