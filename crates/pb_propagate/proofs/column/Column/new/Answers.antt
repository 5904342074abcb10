use Rattle.std.proofs.Common.{vec_capacity}
use Rattle.pb_propagate.proofs.lemmas.Columns.{no_pages}
use Rattle.pb_propagate.proofs.column.Column.new.Goals as goal

pub invariant_of-result : goal.invariant_of-result
invariant_of-result g c = no_pages g.T.Zero.zero (vec_capacity c.new-2.result) c.new.ensures.items c.new-2.ensures.items
