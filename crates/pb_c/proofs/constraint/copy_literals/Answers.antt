use Rattle.pb_c.proofs.{Common.◌<◌, Common.arith, Common.length, Common.refl, Common.sign, Copied.byte_is, Copied.copied_more}
use Rattle.pb_c.proofs.constraint.copy_literals.Goals as goal

pub terms-preserved : goal.terms-preserved
terms-preserved c =
    let terms = c.args.form.now.terms in let inv = c.terms.invariant in
    let first : c.terms.at < length c.terms.numbers = omega (arith, c.terms-test.true, c.len-at-end.ensures.length, c.terms.auto.numbers, c.requires.numbers) in
    let second : c.terms.at < length c.terms.negated = omega (arith, c.terms-test.true, c.len-at-end.ensures.length, c.terms.auto.negated, c.requires.negated) in
    record {
      numbers = copied_more (λ t. t.variable) terms c.terms.numbers c.terms.at _ c.term-variable.result.0 first c.term-variable.ensures.is refl inv.numbers;
      negated = copied_more sign terms c.terms.negated c.terms.at _ _ second c.term-variable.ensures.is (byte_is c.term-variable.result.1) inv.negated;
    }
