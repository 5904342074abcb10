-- Tests of bytes: blanks and white space byte by byte, and the bytes of digits and names. Offered to other crates.
use Rattle.pb_text.proofs.{Common.is_name_byte, Common.is_white, lemmas.text.Booleans.by_or}
use Rattle.pb_text.proofs.Common.{ℕ, ◌+◌, ◌-◌, ◌<◌, ◌≡◌, ◌≤◌, arith, eqb-true, false, IsTrue, refl, true, nat_tests, is_blank, is_digit, is_letter}

-- one of three bytes
pub blank_each : (P : ℕ → Type 0) → P 32 → P 9 → P 13 → (b : ℕ) → is_blank b ≡ true → P b
blank_each P space tab return b h = grind (arith, by_or, eqb-true)

-- one of four bytes
pub white_each : (P : ℕ → Type 0) → P 32 → P 9 → P 13 → P 10 → (b : ℕ) → is_white b ≡ true → P b
white_each P space tab return feed b h = grind (arith, by_or, blank_each, eqb-true)

-- digits
pub digit_byte : (d : ℕ) → d < 10 → is_digit (48 + d) ≡ true
digit_byte d h = grind (arith, nat_tests)

pub digit_dark : (d : ℕ) → d < 10 → is_white (48 + d) ≡ false
digit_dark d h = grind (arith, nat_tests)

pub digit_blank : (d : ℕ) → d < 10 → is_blank (48 + d) ≡ false
digit_blank d h = grind (arith, nat_tests)

pub blank_digit : (b : ℕ) → is_blank b ≡ true → is_digit b ≡ false
blank_digit b h = grind (arith, nat_tests)

pub digit_of : (b : ℕ) → is_digit b ≡ true → (b ≡ 48 + (b - 48)) × (b - 48 < 10)
digit_of b e = grind (arith, nat_tests)

-- names
pub name_high : (b : ℕ) → is_name_byte b ≡ true → 33 ≤ b
name_high b h = grind (arith, nat_tests)

pub letter_name : (b : ℕ) → IsTrue (is_letter b) → IsTrue (is_name_byte b)
letter_name b e = rw e refl
