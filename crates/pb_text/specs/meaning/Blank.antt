-- White space and comments.
use Rattle.pb_text.specs.declared.place.{Place.Place, Stop.Stop, Why.Why}
use Rattle.pb_text.specs.declared.place.Why.TheVariants.{Byte, TooLarge, Ended, TooLong, Read, Memory}
use Rattle.pb_text.specs.meaning.{Classes.is_white, Languages.Each, Pulling.Took, Reading.byte_limit, Spelling.place_past}
use Rattle.std.specs.Prelude.{◌≡◌, ◌≢◌, ℕ, ◌+◌, ◌<◌, ◌≤◌, List, [], ◌∷◌, ◌++◌, length, reverse, Bool, false, not, ◌&&◌, ◌||◌, nat_eq, IsTrue, Option, Result, Ok, Err}

-- no byte is a line feed
abbrev pub IsInLine : List ℕ → Type 0
IsInLine = Each (λ b. IsTrue (not (nat_eq b 10)))

-- White space and comments; a comment is `*` through the next line feed, or to the end.
pub data IsBlank : List ℕ → Type 0 where
  Nothing : IsBlank []
  White : (b : ℕ) (rest : List ℕ) → IsTrue (is_white b) → IsBlank rest → IsBlank (b ∷ rest)
  Comment : (line rest : List ℕ) → IsInLine line → IsBlank rest → IsBlank (42 ∷ (line ++ 10 ∷ rest))
  OpenComment : (line : List ℕ) → IsInLine line → IsBlank (42 ∷ line)

-- a `*` comes before the first line feed
abbrev pub has_star : List ℕ → Bool
has_star [] = false
has_star (b ∷ bytes) = not (nat_eq b 10) && (nat_eq b 42 || has_star bytes)

-- The text ends in a comment: read backward from its end, a `*` comes before any line feed.
abbrev pub in_comment : List ℕ → Bool
in_comment text = has_star (reverse text)

-- the byte is white space, begins a comment, or is in a comment
abbrev pub passes : List ℕ → ℕ → Bool
passes before b = is_white b || nat_eq b 42 || in_comment before

-- a position within the limit on all bytes
pub record IsInReach (p : Place) : Type 0 where
  pub offset : p.offset ≤ byte_limit
  pub line : p.line ≤ byte_limit + 1
  pub column : p.column ≤ byte_limit + 1

-- why the rest after a position is not blank, or is not read to its end
abbrev pub IsStray : Place → List ℕ → List ℕ → Why → Type 0
IsStray place used seen (Byte b) = (more : List ℕ) × (seen ≡ b ∷ more) × (passes used b ≡ false) × (place.offset + length used < byte_limit)
IsStray place used seen TooLong = (seen ≢ []) × (place.offset + length used ≡ byte_limit)
IsStray place used seen Read = Unit {0}
IsStray place used seen TooLarge = ⊥
IsStray place used seen Ended = ⊥
IsStray place used seen Memory = ⊥

-- the result for the rest of a source with these bytes before and those after, if it reports them
abbrev pub ReadsBlank : Place → Option (List ℕ) → Result Unit Stop → Option (List ℕ) → Type 0
ReadsBlank place before (Ok u) after =
    (used : List ℕ) × Took before used [] after × IsBlank used × (place.offset + length used ≤ byte_limit)
ReadsBlank place before (Err s) after =
    (used : List ℕ) × (seen : List ℕ) × Took before used seen after × IsBlank used × (s.place ≡ place_past place used) × IsStray place used seen s.why
