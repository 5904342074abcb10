use Rattle.std.proofs.lemmas.Result.{IfOk-weaker}
use Rattle.pb_normal.proofs.{Common.◌≡◌, lemmas.rules.Sums.IsSum-from}
use Rattle.pb_normal.proofs.form.Normal.joined.Goals as goal

pub of-requires : goal.of-requires
of-requires c =
    let adds = rw (c.terms.ensures.terms, c.terms-2.ensures.terms) at c.in_ok-terms.ensures.adds in
    let sum = IsSum-from c.args.self.now c.args.other.now c.in_ok-terms.terms.items c.in_ok-terms.gone c.in_ok-terms.ensures.rising adds in
    record {
      normal = rw (c.wide.ensures.same, c.saturating_sub-degree.ensures, c.unsigned_degree.ensures.degree, c.unsigned_degree-2.ensures.degree) (c.requires.fits _ sum);
    }

pub returns : goal.returns
returns c =
    let adds = rw (c.terms.ensures.terms, c.terms-2.ensures.terms) at c.in_ok-terms.ensures.adds in
    let sum = IsSum-from c.args.self.now c.args.other.now c.in_ok-terms.terms.items c.in_ok-terms.gone c.in_ok-terms.ensures.rising adds in
    record {
      sum = IfOk-weaker _ (λ r. r ≡ record { terms = c.wide.result; degree = c.saturating_sub-degree.result }) _ (λ r same. rw (same, c.wide.ensures.same, c.saturating_sub-degree.ensures, c.unsigned_degree.ensures.degree, c.unsigned_degree-2.ensures.degree) sum) c.of.ensures.same;
      normal = IfOk-weaker _ (λ r. r ≡ record { terms = c.wide.result; degree = c.saturating_sub-degree.result }) _ (λ r same. rw (same, c.wide.ensures.same, c.saturating_sub-degree.ensures, c.unsigned_degree.ensures.degree, c.unsigned_degree-2.ensures.degree) (c.requires.fits _ sum)) c.of.ensures.same;
    }
