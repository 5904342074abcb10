-- Ids among the words of a line.
use Rattle.pb_lines.specs.declared.Sign.{Sign}
use Rattle.pb_lines.specs.declared.Word.{Word}
use Rattle.pb_text.specs.meaning.Numbers.{signed}
use Rattle.std.specs.Prelude.{ℕ, ℤ, ◌<◌, Bool, true, false, cond, Option, None, Some, nat_eq}

abbrev pub is_minus : Sign → Bool
is_minus Sign.Minus = true
is_minus _ = false

-- a number is below this
abbrev pub IsBelow : ℕ → Word → Type 0
IsBelow most (Word.Number sign n) = n < most
IsBelow most w = Unit {0}

-- the largest magnitude of an id with this sign
abbrev pub id_most : ℕ → Sign → Option ℕ
id_most top Sign.Plus = None
id_most top sign = Some top

-- the id that a word is
abbrev pub id_of : Word → Option ℤ
id_of (Word.Number sign n) = cond (nat_eq n 0) None (Some (signed (is_minus sign) n))
id_of _ = None
