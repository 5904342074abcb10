use Rattle.pb_replay.proofs.{Common.FitsSigned, Common.rules, Common.to_z-of_z, Common.w64, lemmas.conclusions.Bounding.named-some}
use Rattle.pb_replay.proofs.step.bounds.is_found.Goals as goal

pub returns-in-Some-find-clause-ok : goal.returns-in-Some-find-clause-ok
returns-in-Some-find-clause-ok c =
    let fits : FitsSigned w64 c.in-Some.id = search rules in
    named-some c.args.constraints.now.forms c.args.id c.in-Some.id c.in-Some-find.field-0.now c.in-Some.is (rw (to_z-of_z w64 c.in-Some.id fits) at c.in-Some-find.ensures.some)
