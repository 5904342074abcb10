-- What the kind of a letter says about the letter, and conversely.
use Rattle.pb_sums.proofs.Common.{ℕ, ◌+◌, ◌-◌, ◌<◌, ◌≡◌, ◌≤◌, ◌⊎◌, ap, arith, Bool, cond, false, inl, inr, refl, true, IsTrue, cond_both, eqb-true, nat_tests}
use Rattle.pb_sums.proofs.Common.{digit_of, letter_name, name_high, is_digit, is_letter, is_name_byte, digit, unmarked, Letter, Kind, Digit, Equals, Greater}
use Rattle.pb_sums.proofs.Common.{Inner, Minus, Other, Plus, Semicolon, Space, Start, Tilde, Part, Spaces, action, kind, kind_of_numeral, kind_of_plain}
use Rattle.pb_sums.proofs.Common.{Outcome, symbol, Work, is_space}

-- what a kind says about its letter
abbrev pub Means : Spaces → Kind → Letter → Type 0
Means s Space c = (c ≡ unmarked c.byte) × IsTrue (is_space s c.byte)
Means s (Digit d) c = (c ≡ digit d) × (d < 10)
Means s (Start b) c = (c ≡ unmarked b) × IsTrue (is_letter b)
Means s (Inner b) c = (c ≡ unmarked b) × IsTrue (is_name_byte b)
Means s Tilde c = c ≡ unmarked 126
Means s Plus c = c ≡ unmarked 43
Means s Minus c = c ≡ unmarked 45
Means s Greater c = c ≡ unmarked 62
Means s Equals c = c ≡ unmarked 61
Means s Semicolon c = c ≡ unmarked 59
Means s Other c = Unit {0}

symbol-means : (s : Spaces) (b : ℕ) → Means s (symbol b) (unmarked b)
symbol-means s b = grind (arith, eqb-true)

pub kind-means : (s : Spaces) (c : Letter) → Means s (kind s c) c
kind-means s c = go c.byte c.numeral
  where
    go : (b : ℕ) (m : Bool) → Means s (cond m (kind_of_numeral b) (kind_of_plain s b)) (record { byte = b; numeral = m })
    go b true = cond_both (is_digit b) _ _ (λ k. Means s k (record { byte = b; numeral = true }))
        (λ e. let f : (b ≡ 48 + (b - 48)) × (b - 48 < 10) = digit_of b e in
        (ap (λ (x : ℕ). record { byte = x; numeral = true }) f.0, f.1)) (λ _. tt)
    go b false =
        let P : Kind → Type 0 = λ k. Means s k (unmarked b) in
        cond_both (is_space s b) _ _ P (λ e. (refl, e)) (λ _.
        cond_both (is_letter b) _ _ P (λ e. (refl, e)) (λ _.
        cond_both (is_name_byte b) _ _ P (λ e. (refl, e)) (λ _. symbol-means s b)))

-- The kinds of the letters of the grammar.
pub kind-digit : (s : Spaces) (d : ℕ) → d < 10 → kind s (digit d) ≡ Digit d
kind-digit s d h = grind (arith, nat_tests)

pub kind-space : (s : Spaces) (b : ℕ) → IsTrue (is_space s b) → kind s (unmarked b) ≡ Space
kind-space s b e = rw e refl

low : (s : Spaces) (b : ℕ) → 33 ≤ b → is_space s b ≡ false
low s b h = grind (arith, nat_tests)

pub kind-letter : (s : Spaces) (b : ℕ) → IsTrue (is_letter b) → kind s (unmarked b) ≡ Start b
kind-letter s b e = rw (low s b (name_high b (letter_name b e)), e) refl

pub kind-name : (s : Spaces) (b : ℕ) → IsTrue (is_name_byte b) → (kind s (unmarked b) ≡ Start b) ⊎ (kind s (unmarked b) ≡ Inner b)
kind-name s b e = go (is_letter b) refl
  where
    go : (x : Bool) → is_letter b ≡ x → (kind s (unmarked b) ≡ Start b) ⊎ (kind s (unmarked b) ≡ Inner b)
    go true f = inl (kind-letter s b f)
    go false f = inr (rw (low s b (name_high b e), e, f) refl)

-- what a machine does with a letter
abbrev pub on_letter : Spaces → Part → ℕ → Work → Letter → Outcome
on_letter spaces want limit w c = action want limit w.terms w.name w.phase (kind spaces c)
