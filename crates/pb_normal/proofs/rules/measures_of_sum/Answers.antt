use Rattle.pb_normal.proofs.{Common.arith, lemmas.rules.Bounds.SumMeasures-from, lemmas.terms.Totals.size-Adds}
use Rattle.pb_normal.proofs.rules.measures_of_sum.Goals as goal

pub overflow_mul-result : goal.overflow_mul-result
overflow_mul-result c =
    let gone = rw (c.terms.ensures.terms, c.terms-2.ensures.terms) at c.cancelled-gone.ensures in
    omega (arith, size-Adds _ _ _ _ gone.2, c.terms.ensures.normal.size_in, c.terms-2.ensures.normal.size_in)

pub overflow_sub-result : goal.overflow_sub-result
overflow_sub-result c =
    let gone = rw (c.terms.ensures.terms, c.terms-2.ensures.terms) at c.cancelled-gone.ensures in
    rw (c.size_of.ensures, c.size_of-2.ensures, c.terms-3.ensures.terms, c.terms-4.ensures.terms) (omega (arith, size-Adds _ _ _ _ gone.2))

pub returns : goal.returns
returns c =
    let gone = rw (c.terms.ensures.terms, c.terms-2.ensures.terms) at c.cancelled-gone.ensures in
    rw (c.size_of.ensures, c.size_of-2.ensures, c.terms-3.ensures.terms, c.terms-4.ensures.terms, c.saturating_sub.ensures, c.unsigned_degree.ensures.degree, c.unsigned_degree-2.ensures.degree) (SumMeasures-from c.args.left.now c.args.right.now c.cancelled-gone.result gone)
