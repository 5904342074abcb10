use Rattle.pb_normal.proofs.Common.{◌≡◌, arith, each, total, IsSum}
use Rattle.pb_normal.proofs.lemmas.rules.{Bounds.overflow-Memory, Bounds.overflow-Ok, Bounds.IsSum-measured, Bounds.SumPasses-not, Sums.Holds-sum}
use Rattle.pb_normal.proofs.form.Normal.add.Goals as goal

pub returns-in_err-terms-clause-overflow : goal.returns-in_err-terms-clause-overflow
returns-in_err-terms-clause-overflow c =
    let within = SumPasses-not _ _ _ _ _ c.measures_of_sum-size.ensures c.if-size-limit.false c.if-degree-limit.false in
    overflow-Memory _ _ c.from_residual.ensures.1 (rw c.largest-limit.ensures.value at within)

pub returns-in_err-form-clause-overflow : goal.returns-in_err-form-clause-overflow
returns-in_err-form-clause-overflow c =
    let within = SumPasses-not _ _ _ _ _ c.measures_of_sum-size.ensures c.if-size-limit.false c.if-degree-limit.false in
    overflow-Memory _ _ c.from_residual-in_err-form.ensures.1 (rw c.largest-limit.ensures.value at within)

-- the merged terms are those of the sum, and so is their size
whole : (c : goal.After-wide) → IsSum c.args.self.now c.args.other.now record { terms = c.in_ok-terms.terms.items; degree = c.measures_of_sum-size.result.1 } × (total each c.in_ok-terms.terms.items ≡ c.measures_of_sum-size.result.0)
whole c =
    let adds = rw (c.terms-2.ensures.terms, c.terms-3.ensures.terms) at c.in_ok-terms.ensures.adds in
    IsSum-measured _ _ _ _ _ _ c.measures_of_sum-size.ensures c.in_ok-terms.ensures.rising adds

pub of-requires : goal.of-requires
of-requires c = rw c.wide.ensures.same record {
  normal = record { ordered = c.in_ok-terms.ensures.rising; size_in = omega (arith, (whole c).1); degree_in = omega arith };
}

pub returns : goal.returns
returns c =
    let adds = rw (c.terms-2.ensures.terms, c.terms-3.ensures.terms) at c.in_ok-terms.ensures.adds in
    let whole = IsSum-measured _ _ _ _ _ _ c.measures_of_sum-size.ensures c.in_ok-terms.ensures.rising adds in
    let not_past = SumPasses-not _ _ _ _ _ c.measures_of_sum-size.ensures c.if-size-limit.false c.if-degree-limit.false in
    rw (c.in_ok-form.ensures.same, c.wide.ensures.same) record {
      sum = whole.0;
      normal = record { ordered = c.in_ok-terms.ensures.rising; size_in = omega (arith, whole.1); degree_in = omega arith };
      within = record { size_in = omega (arith, whole.1); degree_in = omega arith };
      overflow = overflow-Ok _ _ (rw c.largest-limit.ensures.value at not_past);
      sound = λ a. Holds-sum a _ _ _ whole.0;
    }
