use Rattle.pb_propagate.proofs.Common.{◌<◌, arith, length, take_more}
use Rattle.pb_propagate.proofs.lemmas.root.Kept.{kept-next, listed-inside, noted-fresh}
use Rattle.pb_propagate.proofs.engine.conflict.Conflict.note.Goals as goal

pub put-requires : goal.put-requires
put-requires c =
    let found = c.args.found.now in
    let inside : c.literals.i < length found.list.items = omega (arith, c.literals-test.true, c.len-i-end.ensures, found.list.ok.0) in
    let fresh = noted-fresh found c.literals.self.assignment.list.items c.literals.i c.index-literal.result.now c.requires.reasoned.1 inside c.index-literal.ensures c.literals.invariant.list in
    grind (arith, inside, fresh, listed-inside found c.literals.i, c.index-literal.ensures, c.literals.invariant.values)

pub literals-preserved : goal.literals-preserved
literals-preserved c = grind (arith, c.literals-test.true, c.len-i-end.ensures, c.index-literal.ensures, listed-inside, noted-fresh, c.requires.reasoned.1, c.literals.invariant, c.put.ensures.values, c.in_ok-put.ensures, take_more, kept-next, c.index.ensures)
