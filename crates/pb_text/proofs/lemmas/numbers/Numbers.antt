-- Digits that grow at their end, and those that are written. Offered to other crates.
use Rattle.pb_text.proofs.Common.{ℕ, ◌%◌, ◌*◌, ◌++◌, ◌+◌, ◌/◌, ◌<◌, ◌^◌, ◌∙◌, ◌∷◌, ◌≡◌, ◌≤◌, [], ap, arith, length, length-append, List, map, refl, subst, suc}
use Rattle.pb_text.proofs.Common.{sym, true, ℤ, decimal, pow-succ', pow_mono, decimal_by_steps_wide, digit, Digits, Number, value, digits_of, Letter, ◌-◌}
use Rattle.pb_text.proofs.Common.{mod-eq_of_lt, false, ◌==◌, eqb-true, ap₂, hex_byte, digit_glyph, digits, format_spec, padded_integral, hex_digit, hex_of}
use Rattle.pb_text.proofs.lemmas.text.{Languages.map-append, Languages.each-append, NameBytes.all_below, NameBytes.true_at}
use Rattle.pb_text.specs.{declared.limits.Limits.Limits, meaning.Limits.largest}

value-append : (ds : List ℕ) (d : ℕ) → value (ds ++ d ∷ []) ≡ 10 * value ds + d
value-append [] d = omega arith
value-append (e ∷ ds) d =
    let l : length (ds ++ d ∷ []) ≡ suc (length ds) = omega (arith, length-append ds (d ∷ [])) in
    let p : 10 ^ suc (length ds) ≡ 10 * 10 ^ length ds = pow-succ' 10 (length ds) in rw (l, p) (omega (arith, value-append ds d))

pub digits-grown : (n d : ℕ) (c : Letter) → c ≡ digit d → d < 10 → (q : List Letter) → Digits n q → Digits (10 * n + d) (q ++ c ∷ [])
digits-grown n d c e k q (x, ds, h, f, v) = (
  x,
  ds ++ d ∷ [],
  (h.0, each-append (λ e. e < 10) ds d h.1 k),
  ap (λ x. x ++ c ∷ []) f ∙ (ap (λ y. map digit (x ∷ ds) ++ y ∷ []) e ∙ map-append digit (x ∷ ds) d),
  ap (λ m. 10 * m + d) v ∙ sym (value-append (x ∷ ds) d),
)

pub digits-one : (d : ℕ) (c : Letter) → c ≡ digit d → d < 10 → Digits (10 * 0 + d) (c ∷ [])
digits-one d c e k = (d, [], (k, tt), ap (λ x. x ∷ []) e, omega arith)

-- the letter of a byte that is a digit of a number
abbrev numeral : ℕ → Letter
numeral b = record { byte = b; numeral = true }

-- the digits that are written for a number
pub decimal-digits : (n : ℕ) → n < 10 ^ 64 → Digits n (digits_of (decimal n))
decimal-digits n h = decimal_by_steps_wide P one more n h
  where
    P : ℕ → List ℕ → Type 0
    P m bs = Digits m (digits_of bs)

    one : (m : ℕ) → m < 10 → P m ((48 + m) ∷ [])
    one m i = subst (λ x. Digits x (digit m ∷ [])) (omega arith) (digits-one m (digit m) refl i)

    more : (m : ℕ) (ds : List ℕ) → 10 ≤ m → P (m / 10) ds → P m (ds ++ ((48 + m % 10) ∷ []))
    more m ds i d =
        let e : 10 * (m / 10) + m % 10 ≡ m = omega arith in
        subst (λ x. Digits m x) (map-append numeral ds (48 + m % 10))
        (subst (λ x. Digits x (digits_of ds ++ digit (m % 10) ∷ [])) e (digits-grown (m / 10) (m % 10) (digit (m % 10)) refl (omega arith) (digits_of ds) d))

-- a number within a limit is within a larger one
pub number-within : (small large : ℕ) (z : ℤ) → small ≤ large → (t : List Letter) → Number small z t → Number large z t
number-within small large z h t (negative, n, i, e, k) = (negative, n, omega arith, e, k)

-- the largest number that limits allow fits an i128
pub largest_small : (l : Limits) → largest l < 2 ^ 127
largest_small l = let more : 2 ^ l.bits ≤ 2 ^ 127 = pow_mono l.most_bits in omega (arith, more)

low : (n : ℕ) → n ≤ 2 ^ 127 → n % 2 ^ 128 ≡ n
low n h = mod-eq_of_lt (omega arith)

shifted : (k : ℕ) → k ≤ 127 → 1 * 2 ^ k % 2 ^ 128 ≡ 2 ^ k
shifted k h = let one : 1 * 2 ^ k ≡ 2 ^ k = omega arith in ap (λ (n : ℕ). n % 2 ^ 128) one ∙ low (2 ^ k) (pow_mono h)

pub largest_below : (k : ℕ) → k ≤ 127 → 1 * 2 ^ k % 2 ^ 128 - 1 < 2 ^ 127
largest_below k h = omega (arith, shifted k h, pow_mono h)

pub largest_above : (k : ℕ) → 31 ≤ k → k ≤ 127 → 2 ^ 31 ≤ 1 * 2 ^ k % 2 ^ 128 - 1 + 1
largest_above k low high = omega (arith, shifted k high, pow_mono low)

-- the hexadecimal digits of a byte
digit_glyph-is_hex_digit : (n : ℕ) → n < 16 → digit_glyph false n ≡ hex_digit n
unfolding all_below
digit_glyph-is_hex_digit n small = eqb-true (digit_glyph false n) (hex_digit n) (true_at (λ k. digit_glyph false k == hex_digit k) 16 refl n small)

pub hex_is_hex_of : (n : ℕ) → n < 256 → padded_integral (format_spec 32 0 4 2 (2 ^ 64 - 1)) false [] (digits 16 false n) ≡ hex_of n
hex_is_hex_of n small =
    hex_byte false n small
    ∙ ap₂ (λ (high low : ℕ). high ∷ low ∷ []) (digit_glyph-is_hex_digit (n / 16) (omega arith)) (digit_glyph-is_hex_digit (n % 16) (omega arith))
