-- Where reading an instance may allocate: a statement, its bytes so far and the next byte.
use Rattle.pb_opb.specs.declared.event.OpbEvent.{OpbEvent, TheVariants.Header, TheVariants.Comment, TheVariants.Objective, TheVariants.Constraint}
use Rattle.pb_opb.specs.meaning.Instances.{variable_word, constraint_word, min_word, Whites0, IsTail}
use Rattle.pb_sums.specs.meaning.Asking.{AsksLiteral}
use Rattle.pb_text.specs.meaning.{Numbers.Count, Spelling.Letter, Spelling.bytes, Blank.IsInLine}
use Rattle.pb_text.specs.meaning.Languages.{Language, ◌⋅◌, Byte, Bytes, Blanks0, Blanks1}
use Rattle.std.specs.Prelude.{◌≡◌, ℕ, List, [], ◌∷◌, ◌++◌}

-- the first line through its counts
abbrev pub SpellsCounts : ℕ → ℕ → ℕ → Language
SpellsCounts top variables constraints =
    Byte 42 ⋅ Blanks0 ⋅ Bytes variable_word ⋅ Blanks0 ⋅ Count top variables
    ⋅ Blanks1 ⋅ Bytes constraint_word ⋅ Blanks0 ⋅ Count top constraints

-- `min:` and white space
abbrev pub MinLead : Language
MinLead = Bytes min_word ⋅ Whites0

-- The next byte is one of the tail after the counts, or one of a comment after its star. In a sum it is one of a name
-- or one after a literal.
abbrev pub Asks : ℕ → OpbEvent → List ℕ → ℕ → Type 0
Asks top (Header variables constraints tail) text b =
    (v : ℕ) × (n : ℕ) × (counts : List Letter) × (kept : List ℕ) × SpellsCounts top v n counts × (text ≡ bytes counts ++ kept) × IsTail (kept ++ b ∷ [])
Asks top (Comment line) text b = (kept : List ℕ) × (text ≡ 42 ∷ kept) × IsInLine (kept ++ b ∷ [])
Asks top (Objective terms) text b = (lead : List Letter) × (sum : List ℕ) × MinLead lead × (text ≡ bytes lead ++ sum) × AsksLiteral sum b
Asks top (Constraint linear) text b = AsksLiteral text b
