-- The texts of ids.
use Rattle.pb_proof.proofs.Common.{arith, ℕ, ◌≡◌, ◌≤◌, true, false, refl, subst, sym, List, [], nat_eq, Some, is_digit, signed, Letter, SpellsId}
use Rattle.pb_lines.proofs.lemmas.Ends.{positive}
use Rattle.pb_lines.specs.declared.Sign.{Sign}
use Rattle.pb_lines.specs.declared.Word.{Word}
use Rattle.pb_proof.specs.engine.line.Ids.{id_most, is_minus}
use Rattle.pb_lines.specs.engine.Words.{ends_word}
use Rattle.pb_lines.specs.engine.WordTexts.{WordText}
use Rattle.std.proofs.lemmas.Bool.{Decides.nat_tests}

pub id_text : (top : ℕ) (sign : Sign) (n most : ℕ) (t : List Letter) → nat_eq n 0 ≡ false → id_most top sign ≡ Some most → n ≤ most → WordText (Word.Number sign n) [] t → SpellsId top (signed (is_minus sign) n) t
id_text top Sign.Nothing n most t z e l h = let f : top ≡ most = cc in (false, n, positive n z, subst (λ x. n ≤ x) (sym f) l, refl, h)
id_text top Sign.Minus n most t z e l h = let f : top ≡ most = cc in (true, n, positive n z, subst (λ x. n ≤ x) (sym f) l, refl, h)
id_text top Sign.Plus n most t z e l h = cc

-- a byte that ends a word is no digit
pub ends_dark : (b : ℕ) → ends_word b ≡ true → is_digit b ≡ false
ends_dark b e = grind (arith, nat_tests)
