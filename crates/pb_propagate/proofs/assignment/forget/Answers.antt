use Rattle.pb_propagate.proofs.Common.{NumberedLiteral, get_or, sym, ◌∙◌, arith, false, length-set}
use Rattle.pb_propagate.proofs.lemmas.engine.Literals.{has-get, forget-next, forget-none, says-inside}
use Rattle.pb_propagate.proofs.assignment.forget.Goals as goal

pub unassign-requires-clause-inside : goal.unassign-requires-clause-inside
unassign-requires-clause-inside c =
    let d : NumberedLiteral = record { variable = 0; negated = false } in
    let l = get_or c.args.list.now c.list.literal-index d in
    omega (arith, c.list.invariant.sizes, says-inside c.args.values.now.items l (sym (c.requires.agrees l) ∙ has-get c.args.list.now c.list.literal-index d c.list-test.true))

pub list-preserved : goal.list-preserved
list-preserved c = grind (arith, c.unassign.ensures.values, length-set, c.list.invariant.sizes, forget-next, c.list-test.true, c.list.invariant.forgotten, c.unassign.ensures.marked)

pub returns-clause-none : goal.returns-clause-none
returns-clause-none c = forget-none c.list.values.items c.args.list.now c.list.literal-index (omega (arith, c.list-test.false)) c.list.invariant.forgotten
