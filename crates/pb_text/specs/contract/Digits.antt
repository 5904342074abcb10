-- Digits at the start of a text.
use Rattle.pb_text.specs.meaning.{Classes.is_digit, Languages.Each}
use Rattle.std.specs.Prelude.{◌≡◌, ◌<◌, ◌≤◌, ◌^◌, ℕ, ◌+◌, ◌-◌, ◌*◌, IsTrue, false, List, [], ◌∷◌, length, take, get_or}

-- the value of a number followed by these digits
abbrev pub value_from : ℕ → List ℕ → ℕ
value_from n [] = n
value_from n (b ∷ text) = value_from (10 * n + (b - 48)) text

-- The text begins with n digits of this value. They are followed by the end or a byte that is no digit, if the value is small.
abbrev pub HasDigits : List ℕ → ℕ → ℕ → Type 0
HasDigits text n value = (n ≤ length text) × Each (λ b. IsTrue (is_digit b)) (take n text) × (value ≡ value_from 0 (take n text))
    × (n < length text → value < 2 ^ 60 → is_digit (get_or text n 0) ≡ false)
