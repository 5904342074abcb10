-- The texts of words.
use Rattle.pb_lines.specs.declared.word.Sign.{Sign}
use Rattle.pb_lines.specs.declared.word.Word.{Word}
use Rattle.pb_lines.specs.engine.Words.{capital_bytes}
use Rattle.{pb_sums.specs.meaning.Sums.SpellsLiteral}
use Rattle.pb_text.specs.meaning.Languages.{Language, ◌⋅◌, Empty, Byte, Bytes, Blanks0, Blanks1}
use Rattle.pb_text.specs.meaning.Numbers.{Digits}
use Rattle.std.specs.Prelude.{ℕ, Bool, true, false, List}

abbrev pub SignText : Sign → Language
SignText Sign.Nothing = Empty
SignText Sign.Plus = Byte 43
SignText Sign.Minus = Byte 45

-- the text of a word; the bytes are the name of a literal
abbrev pub WordText : Word → List ℕ → Language
WordText (Word.Number sign n) name = SignText sign ⋅ Digits n
WordText (Word.Literal negated) name = SpellsLiteral (record { negated = negated; name = name })
WordText (Word.Mark b) name = Byte b
WordText (Word.Capital c) name = Bytes (capital_bytes c)

-- what comes before a word: blank+, or blank* after a `:`
abbrev pub Lead : Bool → Language
Lead true = Blanks0
Lead false = Blanks1
