use Rattle.pb_propagate.proofs.{Common.arith, Common.shapes_of, lemmas.root.Retracted.explained-reasons}
use Rattle.pb_propagate.proofs.store.reasons.replace_reason.Goals as goal

pub returns-clause-reasons : goal.returns-clause-reasons
returns-clause-reasons c =
    explained-reasons (shapes_of c.args.store.now.stored.items) c.args.slot c.in-Some.unit c.args.literal c.args.assignment.now c.explain.new.self c.in-Some.ensures
    (c.is_due.ensures.yes c.if-not-is_due.false).0 (omega (arith, c.requires.inside, c.args.assignment.now.known)) c.explain.ensures.list c.explain.ensures.values
    c.explain.ensures.reasons
