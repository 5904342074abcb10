-- The grammar of a number satisfies the laws of grammars.
use Rattle.pb_lines.specs.declared.Word.{Word}
use Rattle.pb_lines.specs.declared.Sign.{Sign}
use Rattle.pb_lines.specs.contract.Laws.{IsCounted, IsGrammar}
use Rattle.pb_proof.specs.engine.line.Formula.{AllGood, formula_grammar, formula_last, formula_most, formula_next}
use Rattle.pb_text.specs.meaning.Languages.{unmarked}
use Rattle.std.proofs.Common.{arith, refl, true, ℕ, ◌≡◌, ◌<◌, ◌^◌, inl, [], ◌∷◌, Option, None, Some}
use Rattle.std.specs.Prelude.{is_some}

comes : (top : ℕ) (count : Option ℕ) (sign : Sign) (most n : ℕ) → formula_most top count sign ≡ Some most → is_some (formula_next count (Word.Number sign n)) ≡ true
comes top None Sign.Nothing most n e = refl
comes top None Sign.Plus most n e = cc
comes top None Sign.Minus most n e = cc
comes top (Some c) sign most n e = cc

same_top : (top : ℕ) (count : Option ℕ) (sign : Sign) (most : ℕ) → 0 < top → formula_most top count sign ≡ Some most → 0 < most
same_top top count sign most h e = grind (arith, h, count, sign)

module _ (limit top : ℕ) where
  pub formula_lawful : limit < 2 ^ 127 → top < 2 ^ 63 → 0 < top → IsGrammar formula_grammar limit top (AllGood limit top)
  formula_lawful l t some = record {
    begins = tt;
    goes = λ s k w name g n e. tt;
    colons = λ s k g e. tt;
    leads = λ s g. (unmarked 10 ∷ [], s.count, formula_last limit top, (refl, refl));
    number = λ s sign most g e. (inl (same_top top s.count sign most some e), λ n name i j. comes top s.count sign most n e);
    literal = λ s e negated name. cc;
    digits = λ s sign n name other. refl;
    mark = λ s b name other. refl;
    capital = λ s b c name e. cc;
  }

  pub formula_counted : IsCounted (formula_grammar limit top)
  formula_counted = record { empty = refl; grows = λ s k w name e. omega arith; same = λ s k e. cc }
