use Rattle.pb_propagate.proofs.{Common.arith, Common.not, Common.Some, lemmas.clauses.Literals.marked-set}
use Rattle.pb_propagate.proofs.assignment.assign.Goals as goal

pub returns-clause-marked : goal.returns-clause-marked
returns-clause-marked c =
    let n = c.args.literal.negated in
    marked-set {a = n} {b = not n} (Some (not n)) c.requires.inside (grind arith) (grind arith) c.requires.marked
