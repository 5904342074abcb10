use Rattle.pb_normal.proofs.{Common.◌+◌, Common.◌-◌, Common.arith, Common.values, Common.IsSum, lemmas.rules.Sums.IsSum-from, lemmas.terms.Totals.size-Adds}
use Rattle.pb_normal.proofs.tree.Tree.joined.Goals as goal

pub overflow_mul-size : goal.overflow_mul-size
overflow_mul-size c =
    let adds = rw c.terms.ensures.terms at c.in_ok-gone.ensures.adds in
    omega (arith, size-Adds _ _ _ _ adds, c.self.invariant.normal.size_in, c.terms.ensures.normal.size_in)

pub overflow_sub-size : goal.overflow_sub-size
overflow_sub-size c =
    let adds = rw c.terms.ensures.terms at c.in_ok-gone.ensures.adds in
    omega (arith, size-Adds _ _ _ _ adds, c.self.invariant.size_is, rw c.terms-2.ensures.terms at c.size_of.ensures)

-- the terms of the map are those of the sum
whole : (c : goal.After-saturating_sub-degree) → IsSum c.args.self c.args.other.now record { terms = values c.put_all.new.terms; degree = c.self.inside.degree + c.args.other.now.degree - c.in_ok-gone.gone }
whole c =
    let adds = rw c.terms.ensures.terms at c.in_ok-gone.ensures.adds in
    rw (← c.self.view_is) (IsSum-from _ c.args.other.now (values c.put_all.new.terms) c.in_ok-gone.gone c.in_ok-gone.ensures.rising adds)

pub returns : goal.returns
returns c = grind (arith, c.saturating_sub-degree.ensures, c.unsigned_degree.ensures.degree, whole c)

pub invariant_of-result : goal.invariant_of-result
invariant_of-result c =
    let adds = rw c.terms.ensures.terms at c.in_ok-gone.ensures.adds in
    record {
      keyed = c.in_ok-gone.ensures.keyed;
      size_is = omega (arith, size-Adds _ _ _ _ adds, rw c.terms-2.ensures.terms at c.size_of.ensures, c.self.invariant.size_is);
      normal = rw (c.saturating_sub-degree.ensures, c.unsigned_degree.ensures.degree) (c.requires.fits _ (whole c));
    }
