use Rattle.pb_propagate.proofs.Common.{arith, get_or_default}
use Rattle.pb_propagate.proofs.lemmas.store.Positions.{position-is}
use Rattle.pb_propagate.proofs.waiting.Waiting.contains.Goals as goal

pub returns-in-Some-clause-no : goal.returns-in-Some-clause-no
returns-in-Some-clause-no c = λ no i from less at.
    let me = c.args.self.now in
    let here = position-is me.list.items me.positions c.args.form c.get.result i 0 me.positioned (c.get.ensures i) less at in
    grind (arith, no, at, less, here, c.in-Some.ensures.lookup, c.in-Some.is, c.deref.ensures.value, get_or_default)

pub returns-in-None-clause-no : goal.returns-in-None-clause-no
returns-in-None-clause-no c = λ no i from less at.
    let me = c.args.self.now in
    let here = position-is me.list.items me.positions c.args.form c.get.result i 0 me.positioned (c.get.ensures i) less at in
    grind (arith, less, here, c.in-None.ensures.lookup, c.in-None.is, c.deref.ensures.value)
