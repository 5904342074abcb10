use Rattle.std.proofs.Common.{vec_capacity}
use Rattle.pb_propagate.proofs.lemmas.Columns.{no_pages}
use Rattle.pb_propagate.proofs.column.Column.with_capacity.Goals as goal

pub invariant_of-result : goal.invariant_of-result
invariant_of-result g c = no_pages g.T.Zero.zero (vec_capacity c.in_ok-items.items) c.in_ok-pages.ensures.items c.in_ok-items.ensures.items
