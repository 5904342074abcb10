use Rattle.std.proofs.Common.{arith, ◌+◌, ◌-◌, ◌≡◌}
use Rattle.pb_propagate.proofs.lemmas.Columns.{cut, one_fewer}
use Rattle.pb_propagate.proofs.column.Column.pop.Goals as goal

pub clear-requires-clause-inside : goal.clear-requires-clause-inside
clear-requires-clause-inside g c =
    let l = c.self.inside in
    rw c.as_slice.ensures.value (omega (arith, c.self.invariant.1, c.if-self-eq0.false))

pub invariant_of-self : goal.invariant_of-self
invariant_of-self g c =
    let l = c.self.inside in let items = c.clear.new.items.items in
    let cleared = rw c.as_slice.ensures.value at c.clear.ensures.values in
    let less : l.count - 1 + 1 ≡ l.count = omega (arith, c.if-self-eq0.false) in
    (rw c.as_slice.ensures.value at c.clear.ensures.pages, omega (arith, c.self.invariant.1), one_fewer g.T.Zero.zero l.pages.items l.pages.items l.items.items items l.count (l.count - 1) c.self.invariant.2 less cleared)

pub returns : goal.returns
returns g c =
    let l = c.self.inside in let items = c.clear.new.items.items in
    let cleared = rw c.as_slice.ensures.value at c.clear.ensures.values in
    let less : l.count - 1 + 1 ≡ l.count = omega (arith, c.if-self-eq0.false) in
    cut g.T.Zero.zero l.pages.items l.pages.items l.items.items items l.count (l.count - 1) c.self.view_is less (cleared l.count (omega (arith, less)))
