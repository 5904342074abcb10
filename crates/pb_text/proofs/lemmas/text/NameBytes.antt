-- The table of name bytes, compared with the definition at each byte by computing. Offered to other crates.
use Rattle.{pb_text.proofs.lemmas.text.Booleans.of_both, pb_text.specs.declared.bytes.TheConstants.NAME_BYTES, std.specs.Bool.beq}
use Rattle.pb_text.proofs.Common.{ℕ, ◌&&◌, ◌<◌, ◌≡◌, arith, Bool, get_or, inl, inr, List, nat_eq, not, refl, suc, true, zero, cases_eq, nat_tests, is_name_byte}

-- the test is true below n
unfoldable pub all_below : (ℕ → Bool) → ℕ → Bool
all_below t zero = true
all_below t (suc n) = t n && all_below t n

pub true_at : (t : ℕ → Bool) (n : ℕ) → all_below t n ≡ true → (b : ℕ) → b < n → t b ≡ true
unfolding all_below
true_at t zero h b lt = absurd (omega arith)
true_at t (suc n) h b lt =
    let both = of_both (t n) (all_below t n) h in
    elim (cases_eq b n) [ inl same ↦ rw same both.0 | inr other ↦ true_at t n both.1 b (omega arith) ]

same_tests : (x y : Bool) → beq x y ≡ true → x ≡ y
same_tests x y h = grind arith

from_table : (table : List ℕ) (b : ℕ) → b < 256 → all_below (λ k. beq (not (nat_eq (get_or table k 0) 44)) (is_name_byte k)) 256 ≡ true
    → not (nat_eq (get_or table b 0) 44) ≡ is_name_byte b
from_table table b lt h = same_tests _ _ (true_at _ 256 h b lt)

pub in_table : (b : ℕ) → b < 256 → not (nat_eq (get_or NAME_BYTES b 0) 44) ≡ is_name_byte b
unfolding all_below
in_table b lt = from_table NAME_BYTES b lt refl

pub name_ascii : (b : ℕ) → is_name_byte b ≡ true → b < 128
name_ascii b h = grind (arith, nat_tests)
