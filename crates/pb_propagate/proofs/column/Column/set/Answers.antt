use Rattle.std.proofs.Common.{arith, ◌<◌}
use Rattle.pb_propagate.proofs.lemmas.Columns.{changed, count_is, has_page, still_empty}
use Rattle.pb_propagate.proofs.column.Column.set.Goals as goal

pub write-requires-clause-inside : goal.write-requires-clause-inside
write-requires-clause-inside g c =
    let l = c.self.inside in
    has_page g.T.Zero.zero l.pages.items l.items.items l.count c.args.index c.self.view_is c.self.invariant.1 c.requires

pub invariant_of-self : goal.invariant_of-self
invariant_of-self g c =
    let l = c.self.inside in let pages = l.pages.items in let items = l.items.items in let w = c.write in
    let low : c.args.index < l.count = omega (arith, c.requires, count_is g.T.Zero.zero pages items l.count c.self.view_is) in
    (w.ensures.pages, omega (arith, c.self.invariant.1, w.ensures.length), still_empty g.T.Zero.zero pages w.new.pages.items items w.new.items.items l.count c.args.index c.args.value c.self.invariant.2 low w.ensures.values)

pub returns : goal.returns
returns g c =
    let l = c.self.inside in let pages = l.pages.items in let items = l.items.items in let w = c.write in
    changed g.T.Zero.zero pages w.new.pages.items items w.new.items.items l.count c.args.index c.args.value c.self.view_is (w.ensures.values l.count (omega (arith, c.requires, count_is g.T.Zero.zero pages items l.count c.self.view_is)))
