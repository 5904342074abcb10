use Rattle.pb_propagate.proofs.Common.{All, IsLight}
use Rattle.pb_propagate.proofs.clause.is_clause.Given as goal

abbrev pub invariant-entries : goal.invariant-entries
invariant-entries l = All IsLight l.yielded
