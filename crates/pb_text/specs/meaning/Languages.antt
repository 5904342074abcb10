-- Languages: sets of texts over letters.
use Rattle.pb_text.specs.meaning.{Classes.is_blank, Spelling.Letter, Spelling.plain}
use Rattle.std.specs.Prelude.{◌≡◌, ℕ, ◌+◌, true, false, List, [], ◌∷◌, ◌++◌, IsTrue}

-- a byte that is no digit of a number
abbrev pub unmarked : ℕ → Letter
unmarked b = record { byte = b; numeral = false }

-- the digit d of a number
abbrev pub digit : ℕ → Letter
digit d = record { byte = 48 + d; numeral = true }

abbrev pub Language : Type 1
Language = List Letter → Type 0

-- a text of the first language followed by a text of the second
infixl 20 ◌⋅◌
abbrev pub ◌⋅◌ : Language → Language → Language
◌⋅◌ P Q = λ t. (a : List Letter) × (b : List Letter) × (t ≡ a ++ b) × P a × Q b

-- the empty text
abbrev pub Empty : Language
Empty = λ t. t ≡ []

-- one byte
abbrev pub Byte : ℕ → Language
Byte b = λ t. t ≡ unmarked b ∷ []

-- these bytes
abbrev pub Bytes : List ℕ → Language
Bytes bs = λ t. t ≡ plain bs

-- each byte is one that passes
abbrev pub Each : (ℕ → Type 0) → List ℕ → Type 0
Each P [] = Unit {0}
Each P (b ∷ bs) = P b × Each P bs

-- zero or more of the bytes, and one or more
abbrev pub Many : (ℕ → Type 0) → Language
Many P = λ t. (bs : List ℕ) × Each P bs × Bytes bs t

abbrev pub Some : (ℕ → Type 0) → Language
Some P = λ t. (b : ℕ) × (bs : List ℕ) × P b × Each P bs × Bytes (b ∷ bs) t

-- blank*, and blank+
abbrev pub Blanks0 : Language
Blanks0 = Many (λ b. IsTrue (is_blank b))

abbrev pub Blanks1 : Language
Blanks1 = Some (λ b. IsTrue (is_blank b))
