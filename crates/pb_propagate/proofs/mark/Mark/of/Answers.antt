use Rattle.pb_propagate.proofs.Common.{rules}
use Rattle.pb_propagate.proofs.mark.Mark.of.Goals as goal

pub returns-clause-ok : goal.returns-clause-ok
returns-clause-ok c = search rules
