use Rattle.pb_propagate.proofs.{Common.clauses_of, lemmas.root.Retracted.needless-codes}
use Rattle.pb_propagate.proofs.store.reasons.replace_reasons.Goals as goal

pub returns-then-is_filled-clause-needless : goal.returns-then-is_filled-clause-needless
returns-then-is_filled-clause-needless c = λ yes.
    let next = c.replace_by_literals.ensures in
    needless-codes c.args.store.now c.args.clauses.now c.args.slot c.replace_by_literals.new.assignment c.requires.slot (c.is_filled.ensures.yes c.if-is_filled.true) (next.reasons.reasoned (clauses_of c.args.clauses.now) c.requires.joined c.requires.reasoned) (next.needless yes)
