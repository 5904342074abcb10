use Rattle.pb_normal.proofs.lemmas.terms.Maps.{IsNormal-negation, Holds-negation, Holds-negation_back}
use Rattle.pb_normal.proofs.form.Normal.negation.Goals as goal

pub of-requires : goal.of-requires
of-requires c = record {
  normal = rw (c.wide.ensures.same, c.in_ok-terms.ensures, c.terms-2.ensures.terms, c.saturating_sub-degree.ensures, c.size_of.ensures, c.terms-3.ensures.terms, c.unsigned_degree.ensures.degree) (IsNormal-negation _ c.requires c.terms.ensures.normal);
}

pub returns-clause-normal : goal.returns-clause-normal
returns-clause-normal c = rw (c.in_ok-form.ensures.same, c.wide.ensures.same, c.in_ok-terms.ensures, c.terms-2.ensures.terms, c.saturating_sub-degree.ensures, c.size_of.ensures, c.terms-3.ensures.terms, c.unsigned_degree.ensures.degree) (IsNormal-negation _ c.requires c.terms.ensures.normal)

pub returns-clause-opposite : goal.returns-clause-opposite
returns-clause-opposite c =
    rw (c.in_ok-form.ensures.same, c.wide.ensures.same, c.in_ok-terms.ensures, c.terms-2.ensures.terms, c.saturating_sub-degree.ensures, c.size_of.ensures, c.terms-3.ensures.terms, c.unsigned_degree.ensures.degree) (λ a. (Holds-negation a c.args.self.now c.requires, Holds-negation_back a c.args.self.now c.requires))
