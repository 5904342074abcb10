use Rattle.pb_c.proofs.Common.{ℤ, ◌<◌, ◌∙◌, ◌≡◌, ap, arith, FitsSigned, length, of_z, rules, sym, to_z, w64, to_z-of_z, coefficient_high}
use Rattle.pb_c.proofs.{Common.coefficient_low, Copied.copied_more, Copied.positive_is, constraint.copy_coefficients.Goals.terms-preserved as goal}
use Rattle.pb_pieces.specs.Words.{high_word, low_word}

pub terms-preserved : goal
terms-preserved c =
    let terms = c.args.form.now.terms in let inv = c.terms.invariant in
    let first : c.terms.at < length c.terms.lows = omega (arith, c.terms-test.true, c.len-at-end.ensures.length, c.terms.auto.lows, c.requires.lows) in
    let second : c.terms.at < length c.terms.highs = omega (arith, c.terms-test.true, c.len-at-end.ensures.length, c.terms.auto.highs, c.requires.highs) in
    let value = positive_is c.term-coefficient.result.2 c.term-coefficient.ensures.positive in
    let low : c.split-low.result.0 ≡ low_word c.term-coefficient.result.2 = search rules in
    let high : c.split-low.result.1 ≡ high_word c.term-coefficient.result.2 = search rules in
    let fits : FitsSigned w64 c.split-low.result.1 = search rules in
    let same : to_z w64 (of_z w64 c.split-low.result.1) ≡ c.split-low.result.1 = to_z-of_z w64 c.split-low.result.1 fits in
    record {
      lows = copied_more coefficient_low terms c.terms.lows c.terms.at _ c.split-low.result.0 first c.term-coefficient.ensures.is (low ∙ ap (λ (z : ℤ). low_word z) (sym value)) inv.lows;
      highs = copied_more coefficient_high terms c.terms.highs c.terms.at _ _ second c.term-coefficient.ensures.is (same ∙ (high ∙ ap (λ (z : ℤ). high_word z) (sym value))) inv.highs;
    }
