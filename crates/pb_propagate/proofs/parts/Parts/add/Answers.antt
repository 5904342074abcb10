use Rattle.std.proofs.Common.{arith}
use Rattle.pb_propagate.proofs.lemmas.Spans.{count_is, one_more}
use Rattle.pb_propagate.proofs.parts.Parts.add.Goals as goal

pub overflow_add-self : goal.overflow_add-self
overflow_add-self c =
    let p = c.self.inside in
    omega (arith, c.requires, count_is p.spans.items p.exponents.items p.count c.self.view_is)

pub returns : goal.returns
returns c =
    let p = c.self.inside in
    one_more p.spans.items p.exponents.items p.count c.self.invariant c.self.view_is
