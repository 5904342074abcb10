use Rattle.std.proofs.lemmas.Result.{IfOk-weaker}
use Rattle.pb_normal.proofs.Common.{◌≡◌}
use Rattle.pb_normal.proofs.lemmas.terms.Maps.{IsNormal-weakened}
use Rattle.pb_normal.proofs.form.Normal.weakened.Goals as goal

pub of-requires : goal.of-requires
of-requires c = record {
  normal = rw (c.wide.ensures.same, c.in_ok-terms.ensures, c.terms.ensures.terms, c.saturating_sub-degree.ensures, c.unsigned_degree.ensures.degree, c.total_of-dropped.ensures, c.terms-2.ensures.terms) (IsNormal-weakened c.args.variable _ c.terms.ensures.normal);
}

pub returns-clause-normal : goal.returns-clause-normal
returns-clause-normal c = IfOk-weaker _ (λ r. r ≡ record { terms = c.wide.result; degree = c.saturating_sub-degree.result }) _ (λ r same. rw (same, c.wide.ensures.same, c.in_ok-terms.ensures, c.terms.ensures.terms, c.saturating_sub-degree.ensures, c.unsigned_degree.ensures.degree, c.total_of-dropped.ensures, c.terms-2.ensures.terms) (IsNormal-weakened c.args.variable _ c.terms.ensures.normal)) c.of.ensures.same
