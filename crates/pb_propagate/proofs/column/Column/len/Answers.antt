use Rattle.std.proofs.Common.{arith, sym}
use Rattle.pb_propagate.proofs.lemmas.Columns.{count_is}
use Rattle.pb_propagate.proofs.column.Column.len.Goals as goal

pub returns-clause-is : goal.returns-clause-is
returns-clause-is g c = let l = c.self.inside in sym (count_is g.T.Zero.zero l.pages.items l.items.items l.count c.self.view_is)

pub returns-clause-small : goal.returns-clause-small
returns-clause-small g c = let l = c.self.inside in omega (arith, c.self.invariant.1, c.self.invariant.0.memory, l.items.small)
