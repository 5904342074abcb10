-- How the texts of numbers end.
use Rattle.pb_proof.proofs.Common.{ℕ, ◌+◌, ◌<◌, ◌∷◌, ◌≡◌, [], false, IsTrue, List, map, refl, subst, sym}
use Rattle.pb_proof.proofs.Common.{ends_after, EndsIn, digit_byte, is_digit, ◌⋅◌, digit, Each, Language, bytes}
use Rattle.pb_proof.proofs.Common.{Letter, EndsNumber, Digits as DigitsOf}
use Rattle.pb_lines.proofs.lemmas.TextEnds.{joined_end}

digits_last : (d : ℕ) (ds : List ℕ) → Each (λ e. e < 10) (d ∷ ds) → (c : ℕ) × EndsIn (bytes (map digit (d ∷ ds))) (c ∷ []) × IsTrue (is_digit c)
digits_last d [] h = (48 + d, ([], refl), digit_byte d h.0)
digits_last d (e ∷ ds) h =
    let (c, f, k) = digits_last e ds h.1 in (c, ends_after ((48 + d) ∷ []) (bytes (map digit (e ∷ ds))) (c ∷ []) f, k)

-- digits end in a digit
pub digits_end : (n : ℕ) (t : List Letter) → DigitsOf n t → (c : ℕ) × EndsIn (bytes t) (c ∷ []) × IsTrue (is_digit c)
digits_end n t (d, ds, h, e, v) =
    let (c, f, k) = digits_last d ds h in (c, subst (λ (x : List Letter). EndsIn (bytes x) (c ∷ [])) (sym e) f, k)

-- after digits, at a byte that is not a digit
pub number_end : (P : Language) (n : ℕ) (t : List Letter) (b : ℕ) → (P ⋅ DigitsOf n) t → is_digit b ≡ false → EndsNumber (bytes t) b
number_end P n t b (a, c, e, h, k) dark = let (d, f, g) = digits_end n c k in (d, joined_end a c t (d ∷ []) e f, g, dark)
