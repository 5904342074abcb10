-- When a literal may allocate, in terms of the bytes so far and the next one.
use Rattle.pb_sums.specs.meaning.Sums.{IsName}
use Rattle.pb_text.specs.meaning.{Classes.is_letter, Classes.is_name_byte, Languages.Each}
use Rattle.std.specs.Prelude.{◌≡◌, ℕ, false, List, [], ◌∷◌, ◌++◌, IsTrue, ◌⊎◌}

-- the text ends in these bytes
abbrev pub EndsIn : List ℕ → List ℕ → Type 0
EndsIn text end = (before : List ℕ) × (text ≡ before ++ end)

-- a letter followed by name bytes
abbrev pub IsNameStart : List ℕ → Type 0
IsNameStart [] = ⊥
IsNameStart (b ∷ bs) = IsTrue (is_letter b) × Each (λ e. IsTrue (is_name_byte e)) bs

-- The next byte is in a name: a letter, or a name byte after a letter and name bytes.
abbrev pub InName : List ℕ → ℕ → Type 0
InName text b = (name : List ℕ) × EndsIn text name × IsNameStart (name ++ b ∷ [])

-- The next byte ends a literal: it comes after a name, and is not a name byte.
abbrev pub EndsLiteral : List ℕ → ℕ → Type 0
EndsLiteral text b = (name : List ℕ) × EndsIn text name × IsName name × (is_name_byte b ≡ false)

abbrev pub AsksLiteral : List ℕ → ℕ → Type 0
AsksLiteral text b = InName text b ⊎ EndsLiteral text b
