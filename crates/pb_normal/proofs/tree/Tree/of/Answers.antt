use Rattle.pb_normal.proofs.{Common.ap, Common.refl, Common.values_of, lemmas.terms.KeyedTerms.Adds-from_none}
use Rattle.pb_normal.proofs.tree.Tree.of.Goals as goal

-- the terms of the tree are those of the form
pub invariant_of-result : goal.invariant_of-result
invariant_of-result c =
    let adds = rw (ap values_of c.new-terms.ensures.empty, c.terms.ensures.terms) at c.in_ok-put_all.ensures.adds in
    let same = Adds-from_none _ _ _ c.terms.ensures.normal.ordered c.in_ok-put_all.ensures.rising adds in
    record {
      keyed = c.in_ok-put_all.ensures.keyed;
      size_is = rw same (rw c.terms-2.ensures.terms at c.size_of.ensures);
      normal = rw (same, c.unsigned_degree.ensures.degree) c.terms.ensures.normal;
    }

pub returns : goal.returns
returns c =
    let adds = rw (ap values_of c.new-terms.ensures.empty, c.terms.ensures.terms) at c.in_ok-put_all.ensures.adds in
    let same = Adds-from_none _ _ _ c.terms.ensures.normal.ordered c.in_ok-put_all.ensures.rising adds in
    record { same = rw (same, c.unsigned_degree.ensures.degree) refl }
