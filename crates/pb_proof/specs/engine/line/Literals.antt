-- The literals of a line.
use Rattle.pb_lines.specs.declared.Word.{Word}
use Rattle.pb_sums.specs.declared.Literal.{Literal}
use Rattle.std.specs.Prelude.{ℕ, ◌+◌, Bool, true, false, List, [], ◌∷◌, ◌++◌, length}

abbrev pub literal : Bool → List ℕ → Literal
literal negated name = record { negated = negated; name = name }

-- the number of literals plus the number of bytes of their names
abbrev pub units : List Literal → ℕ
units [] = 0
units (l ∷ ls) = 1 + length l.name + units ls

abbrev pub is_literal : Word → Bool
is_literal (Word.Literal negated) = true
is_literal w = false

-- the literals with the one that a word is
abbrev pub with_literal : List Literal → Word → List ℕ → List Literal
with_literal ls (Word.Literal negated) name = ls ++ literal negated name ∷ []
with_literal ls w name = ls
