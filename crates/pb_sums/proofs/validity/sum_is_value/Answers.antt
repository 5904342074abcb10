use Rattle.pb_sums.proofs.{Common.arith, Common.largest, lemmas.values.Elements.one_passes, lemmas.values.Elements.one_fails}
use Rattle.pb_sums.proofs.validity.sum_is_value.Goals as goal

pub returns-then-not-term_is_value : goal.returns-then-not-term_is_value
returns-then-not-term_is_value c = grind (arith, one_fails, c.largest.ensures.value, c.term-item.is, c.term_is_value.ensures, c.if-not-term_is_value.true)

pub loop-term-preserved : goal.loop-term-preserved
loop-term-preserved c =
    one_passes (largest c.args.limits) c.largest.result c.args.terms.now c.loop-term.term-index c.term-item.result c.term-item.result c.term_is_value.result
    (omega arith) c.largest.ensures.value c.term-item.is c.term_is_value.ensures c.if-not-term_is_value.false c.loop-term.invariant
