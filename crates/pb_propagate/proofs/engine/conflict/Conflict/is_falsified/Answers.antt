use Rattle.pb_propagate.proofs.Common.{◌∙◌, ap, arith, sym, slot_shape, open_sum, says, Shape}
use Rattle.pb_propagate.proofs.lemmas.{clauses.Shapes.shape-some, engine.Propagated.shape-at, root.Kept.free-met, root.Retracted.slot-is}
use Rattle.pb_propagate.proofs.engine.conflict.Conflict.is_falsified.Goals as goal

pub returns-then-not-is_filled : goal.returns-then-not-is_filled
returns-then-not-is_filled c = λ above x at.
    let list = c.args.self.now.assignment.list.items in
    let none = ap (slot_shape _) (c.is_filled.ensures.no c.if-not-is_filled.true) in
    let is = slot-is c.args.store.now c.args.clauses.now c.args.slot x c.requires.slot at ∙ none
    ∙ shape-at _ c.args.slot c.index-kept.result.now c.requires.slot c.index-kept.ensures x in
    let sum = c.open_under-opened.ensures list (λ l. c.args.self.now.assignment.agrees l ∙ ap (λ vs. says vs l) (sym c.as_slice.ensures.value)) in
    omega (arith, c.is_below.ensures.above above, sum, ap (λ (f : Shape). open_sum list f.terms) is, ap (λ (f : Shape). f.degree) is, c.degree.ensures)

pub returns-in-Some : goal.returns-in-Some
returns-in-Some c = λ found x at.
    let run = c.args.self.now in
    free-met run.assignment.values.items run.assignment.list.items _ _ x run.assignment.agrees (slot-is c.args.store.now c.args.clauses.now c.args.slot x c.requires.slot at ∙ shape-some _ _ (c.is_filled.ensures.yes c.if-not-is_filled.false)) c.in-Some.ensures.some
