use Rattle.std.proofs.Common.{◌+◌, arith}
use Rattle.pb_propagate.proofs.lemmas.Columns.{as_empty, pushed}
use Rattle.pb_propagate.proofs.column.Column.push_empty.Goals as goal

pub invariant_of-self : goal.invariant_of-self
invariant_of-self g c =
    let l = c.self.inside in let r = c.reach in
    (r.ensures.pages, c.in_err-reach.ensures.err, as_empty g.T.Zero.zero l.pages.items r.new.pages.items l.items.items r.new.items.items l.count c.self.invariant.2 r.ensures.values)

pub invariant_of-self-2 : goal.invariant_of-self-2
invariant_of-self-2 g c =
    let l = c.self.inside in let r = c.reach in
    let empty = as_empty g.T.Zero.zero l.pages.items r.new.pages.items l.items.items r.new.items.items l.count c.self.invariant.2 r.ensures.values in
    (r.ensures.pages, omega (arith, c.in_ok-reach.ensures.ok), λ k past. empty k (omega (arith, past)))

pub returns-clause-ok : goal.returns-clause-ok
returns-clause-ok g c =
    let l = c.self.inside in let r = c.reach in
    pushed g.T.Zero.zero l.pages.items r.new.pages.items l.items.items r.new.items.items l.count c.self.view_is c.self.invariant.2 (r.ensures.values (l.count + 1))
