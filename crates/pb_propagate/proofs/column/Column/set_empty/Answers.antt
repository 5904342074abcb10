use Rattle.std.proofs.Common.{arith, ◌<◌}
use Rattle.pb_propagate.proofs.lemmas.Columns.{changed, count_is, has_page, still_empty}
use Rattle.pb_propagate.proofs.column.Column.set_empty.Goals as goal

pub clear-requires-clause-inside : goal.clear-requires-clause-inside
clear-requires-clause-inside g c =
    let l = c.self.inside in
    rw c.as_slice.ensures.value (has_page g.T.Zero.zero l.pages.items l.items.items l.count c.args.index c.self.view_is c.self.invariant.1 c.requires)

pub invariant_of-self : goal.invariant_of-self
invariant_of-self g c =
    let l = c.self.inside in let pages = l.pages.items in let items = l.items.items in
    let cleared = rw c.as_slice.ensures.value at c.clear.ensures.values in
    let low : c.args.index < l.count = omega (arith, c.requires, count_is g.T.Zero.zero pages items l.count c.self.view_is) in
    (rw c.as_slice.ensures.value at c.clear.ensures.pages, c.self.invariant.1, still_empty g.T.Zero.zero pages pages items c.clear.new.items.items l.count c.args.index g.T.Zero.zero c.self.invariant.2 low cleared)

pub returns : goal.returns
returns g c =
    let l = c.self.inside in let pages = l.pages.items in let items = l.items.items in
    let cleared = rw c.as_slice.ensures.value at c.clear.ensures.values in
    changed g.T.Zero.zero pages pages items c.clear.new.items.items l.count c.args.index g.T.Zero.zero c.self.view_is (cleared l.count (omega (arith, c.requires, count_is g.T.Zero.zero pages items l.count c.self.view_is)))
