use Rattle.pb_propagate.proofs.Common.{◌+◌, ◌-◌, ◌<◌, ◌≡◌, arith, length}
use Rattle.pb_propagate.proofs.lemmas.root.Rooted.{cut-inside, cut-next}
use Rattle.pb_propagate.proofs.assignment.shorten.Goals as goal

pub unassign-requires-clause-inside : goal.unassign-requires-clause-inside
unassign-requires-clause-inside c = grind (arith, c.list-test.true, c.list.list.ok.0, c.len.ensures, c.len-last.ensures, cut-inside, c.index-literal.ensures, c.list.invariant.cut)

pub list-preserved : goal.list-preserved
list-preserved c =
    let size : length c.list.list.items ≡ (c.len-last.result - 1) + 1 = omega (arith, c.list-test.true, c.list.list.ok.0, c.len.ensures, c.len-last.ensures) in
    let more : c.args.count < length c.list.list.items = omega (arith, c.list-test.true, c.list.list.ok.0, c.len.ensures) in
    let next = cut-next c.args.values.now.items c.args.list.now.items c.args.count c.list.values.items c.list.list.items (c.len-last.result - 1) c.index-literal.result.now more size c.index-literal.ensures c.list.invariant.cut in
    record { cut = rw (c.unassign.ensures.values, c.pop.ensures.rest, ← c.len-last.ensures) next; marked = c.unassign.ensures.marked }
