-- What a caller finds in the room for a text.
use Rattle.std.specs.Prelude.{◌≡◌, ℕ, List, ◌++◌, length, take, drop}

-- The room begins with the text, or as much of it as fits, and is unchanged after that. The length is that of the whole
-- text.
abbrev pub Puts : List ℕ → List ℕ → List ℕ → ℕ → Type 0
Puts text old new whole = (new ≡ take (length old) text ++ drop (length text) old) × (whole ≡ length text)
