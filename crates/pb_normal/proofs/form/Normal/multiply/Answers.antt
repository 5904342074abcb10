use Rattle.pb_normal.proofs.Common.{rules}
use Rattle.pb_normal.proofs.lemmas.rules.Scales.{Holds-multiplied, IsNormal-multiplied, IsWithin-multiplied}
use Rattle.pb_normal.proofs.form.Normal.multiply.Goals as goal

pub of-requires : goal.of-requires
of-requires c =
    let within = IsWithin-multiplied c.largest.result c.unsigned_abs-k.result c.args.self.now (rw (c.size_of.ensures, c.terms.ensures.terms) at c.if-size_of-most.false) (rw c.unsigned_degree.ensures.degree at c.if-unsigned_degree-most.false) in
    record {
      normal = rw (c.wide.ensures.same, c.in_ok-terms.ensures, c.terms-3.ensures.terms, c.unsigned_degree-2.ensures.degree) (IsNormal-multiplied c.largest.result c.unsigned_abs-k.result _ (search rules) c.largest.ensures.room c.terms.ensures.normal within);
    }

pub returns-clause-normal : goal.returns-clause-normal
returns-clause-normal c =
    let within = IsWithin-multiplied c.largest.result c.unsigned_abs-k.result c.args.self.now (rw (c.size_of.ensures, c.terms.ensures.terms) at c.if-size_of-most.false) (rw c.unsigned_degree.ensures.degree at c.if-unsigned_degree-most.false) in
    rw (c.in_ok-form.ensures.same, c.wide.ensures.same, c.in_ok-terms.ensures, c.terms-3.ensures.terms, c.unsigned_degree-2.ensures.degree) (IsNormal-multiplied c.largest.result c.unsigned_abs-k.result _ (search rules) c.largest.ensures.room c.terms.ensures.normal within)

pub returns-clause-within : goal.returns-clause-within
returns-clause-within c =
    let within = IsWithin-multiplied c.largest.result c.unsigned_abs-k.result c.args.self.now (rw (c.size_of.ensures, c.terms.ensures.terms) at c.if-size_of-most.false) (rw c.unsigned_degree.ensures.degree at c.if-unsigned_degree-most.false) in
    rw (c.in_ok-form.ensures.same, ← c.largest.ensures.value, c.wide.ensures.same, c.in_ok-terms.ensures, c.terms-3.ensures.terms, c.unsigned_degree-2.ensures.degree) within

pub returns-clause-sound : goal.returns-clause-sound
returns-clause-sound c =
    rw (c.in_ok-form.ensures.same, c.wide.ensures.same, c.in_ok-terms.ensures, c.terms-3.ensures.terms, c.unsigned_degree-2.ensures.degree)
    (λ a. Holds-multiplied a c.unsigned_abs-k.result c.args.self.now)
