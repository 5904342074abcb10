use Rattle.pb_propagate.proofs.{Common.None, Common.refl, lemmas.clauses.Literals.marked-set}
use Rattle.pb_propagate.proofs.assignment.unassign.Goals as goal

pub returns-clause-marked : goal.returns-clause-marked
returns-clause-marked c = marked-set None c.requires.inside refl refl c.requires.marked
