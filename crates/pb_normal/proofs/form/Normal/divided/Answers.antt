use Rattle.std.proofs.lemmas.Result.{IfOk-weaker}
use Rattle.pb_normal.proofs.Common.{◌≡◌}
use Rattle.pb_normal.proofs.lemmas.terms.Maps.{IsNormal-divided}
use Rattle.pb_normal.proofs.form.Normal.divided.Goals as goal

pub of-requires : goal.of-requires
of-requires c = record {
  normal = rw (c.wide.ensures.same, c.divide_all.ensures, c.in_ok-terms.ensures.same, c.into_parts-terms.ensures.terms, c.div_ceil.ensures, c.into_parts-terms.ensures.degree) (IsNormal-divided c.args.k _ c.requires c.into_parts-terms.ensures.normal);
}

pub returns-clause-normal : goal.returns-clause-normal
returns-clause-normal c = IfOk-weaker _ (λ r. r ≡ record { terms = c.wide.result; degree = c.div_ceil.result }) _ (λ r same. rw (same, c.wide.ensures.same, c.divide_all.ensures, c.in_ok-terms.ensures.same, c.into_parts-terms.ensures.terms, c.div_ceil.ensures, c.into_parts-terms.ensures.degree) (IsNormal-divided c.args.k _ c.requires c.into_parts-terms.ensures.normal)) c.of.ensures.same
