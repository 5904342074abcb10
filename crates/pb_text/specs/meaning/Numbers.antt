-- Numbers in decimal digits.
use Rattle.pb_text.specs.meaning.Languages.{digit, Language, ◌⋅◌, Empty, Byte, Each}
use Rattle.std.specs.Prelude.{◌≡◌, ℕ, ◌+◌, ◌*◌, ◌^◌, ◌<◌, ◌≤◌, Bool, true, false, List, [], ◌∷◌, length, map, ◌⊎◌, ℤ, pos, neg_ℤ}

-- The value of digits, the first one the most significant: the sum of each digit times its power of ten.
abbrev pub value : List ℕ → ℕ
value [] = 0
value (d ∷ ds) = d * 10 ^ length ds + value ds

-- one or more digits, and their value
abbrev pub Digits : ℕ → Language
Digits n = λ t. (d : ℕ) × (ds : List ℕ) × Each (λ e. e < 10) (d ∷ ds) × (t ≡ map digit (d ∷ ds)) × (n ≡ value (d ∷ ds))

-- a sign: `-` if negative, otherwise `+` or nothing
abbrev pub Sign : Bool → Language
Sign true = Byte 45
Sign false = λ t. Empty t ⊎ Byte 43 t

abbrev pub signed : Bool → ℕ → ℤ
signed true n = neg_ℤ (pos n)
signed false n = pos n

-- a sign directly followed by digits, its magnitude at most limit
abbrev pub Number : ℕ → ℤ → Language
Number limit z = λ t. (negative : Bool) × (n : ℕ) × (n ≤ limit) × (z ≡ signed negative n) × (Sign negative ⋅ Digits n) t

-- digits, with a value of at most top
abbrev pub Count : ℕ → ℕ → Language
Count top n = λ t. (n ≤ top) × Digits n t
