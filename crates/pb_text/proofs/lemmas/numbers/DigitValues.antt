-- The values of digits that are read one by one. Offered to other crates.
use Rattle.pb_text.proofs.Common.{ℕ, ◌*◌, ◌++◌, ◌+◌, ◌-◌, ◌<◌, ◌∙◌, ◌∷◌, ◌≡◌, ◌≤◌, [], ap, arith, get_or, IsTrue, length, List, refl, sym, take, take_more}
use Rattle.pb_text.proofs.Common.{value_from, is_digit, Each}

abbrev pub AreDigits : List ℕ → Type 0
AreDigits text = Each (λ d. IsTrue (is_digit d)) text

value-more : (n : ℕ) (text : List ℕ) (b : ℕ) → value_from n (text ++ b ∷ []) ≡ 10 * value_from n text + (b - 48)
value-more n [] b = refl
value-more n (c ∷ text) b = value-more (10 * n + (c - 48)) text b

pub value-grows : (n : ℕ) (text : List ℕ) → n ≤ value_from n text
value-grows n [] = omega arith
value-grows n (b ∷ text) = omega (arith, value-grows (10 * n + (b - 48)) text)

-- the next of the bytes of a text
pub value_on : (text : List ℕ) (i : ℕ) (n : ℕ) → i < length text → n ≡ value_from 0 (take i text) → 10 * n + (get_or text i 0 - 48) ≡ value_from 0 (take (i + 1) text)
value_on text i n h e =
    ap (λ m. 10 * m + (get_or text i 0 - 48)) e ∙ (sym (value-more 0 (take i text) (get_or text i 0)) ∙ ap (value_from 0) (sym (take_more text i 0 h)))
