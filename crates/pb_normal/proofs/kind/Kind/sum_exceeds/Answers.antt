use Rattle.pb_normal.proofs.{Common.arith, Common.inl, Common.kind_form, lemmas.terms.Totals.size-Adds}
use Rattle.pb_normal.proofs.lemmas.rules.Bounds.{SumPasses-small, SumPasses-measured, SumPasses-by_degree, reports, reports_none, SumMeasures-from}
use Rattle.pb_normal.proofs.kind.Kind.sum_exceeds.Goals as goal

pub returns-then-degree-limit : goal.returns-then-degree-limit
returns-then-degree-limit c =
    reports_none _ (SumPasses-small c.args.limit (kind_form c.args.self.now) (kind_form c.args.other.now) (omega (arith, c.size.ensures.size, c.size-2.ensures.size, c.if-size-limit.true)) (omega (arith, c.degree.ensures.degree, c.degree-2.ensures.degree, c.if-degree-limit.true)))

pub overflow_mul-gone : goal.overflow_mul-gone
overflow_mul-gone c = omega (arith, size-Adds _ _ _ _ c.cancelled-gone.ensures.2, c.size.ensures.normal.size_in, c.size-2.ensures.normal.size_in)

pub overflow_sub-size : goal.overflow_sub-size
overflow_sub-size c = omega (arith, size-Adds _ _ _ _ c.cancelled-gone.ensures.2, c.size.ensures.size, c.size-2.ensures.size)

pub returns-then-size-gone : goal.returns-then-size-gone
returns-then-size-gone c =
    let m = SumMeasures-from (kind_form c.args.self.now) (kind_form c.args.other.now) c.cancelled-gone.result c.cancelled-gone.ensures in
    (λ h. SumPasses-measured c.args.limit _ _ _ _ m (inl (omega (arith, c.if-size-gone.true, c.size.ensures.size, c.size-2.ensures.size))), λ p. (reports _ _).1 c.if-size-gone.true)

pub returns-else-size-gone : goal.returns-else-size-gone
returns-else-size-gone c =
    let m = SumMeasures-from (kind_form c.args.self.now) (kind_form c.args.other.now) c.cancelled-gone.result c.cancelled-gone.ensures in
    rw (c.saturating_sub.ensures, c.degree.ensures.degree, c.degree-2.ensures.degree) (SumPasses-by_degree c.args.limit _ _ _ _ m (omega (arith, c.if-size-gone.false, c.size.ensures.size, c.size-2.ensures.size)))
