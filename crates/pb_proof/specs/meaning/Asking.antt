-- Where reading a proof may allocate, in terms of a statement, its bytes so far and the next byte.
use Rattle.pb_proof.specs.declared.{conclusion.Conclusion.Conclusion, statement.Statement.Statement}
use Rattle.pb_proof.specs.meaning.Lines.{pol_word, rup_word, soli_word, solx_word, del_word, id_word, conclusion_word}
use Rattle.{pb_sums.specs.meaning.Asking.EndsIn, pb_sums.specs.meaning.Asking.AsksLiteral, pb_text.specs.meaning.Spelling.Letter}
use Rattle.pb_text.specs.meaning.{Classes.is_digit, Classes.is_name_byte, Spelling.bytes, Languages.Language, Languages.◌⋅◌, Languages.Bytes, Languages.Blanks1}
use Rattle.std.specs.Prelude.{◌≡◌, ℕ, false, List, [], ◌∷◌, ◌++◌, IsTrue, ◌⊎◌, Some}

-- The next byte ends a number: it comes after a digit and is not a digit.
abbrev pub EndsNumber : List ℕ → ℕ → Type 0
EndsNumber text b = (d : ℕ) × EndsIn text (d ∷ []) × IsTrue (is_digit d) × (is_digit b ≡ false)

-- The next byte is `+`, or it comes after an `s` and is not a byte of a name.
abbrev pub AsksOperator : List ℕ → ℕ → Type 0
AsksOperator text b = (b ≡ 43) ⊎ (EndsIn text (115 ∷ []) × (is_name_byte b ≡ false))

-- a byte of a name, a byte after a literal or a number, or an operator
abbrev pub AsksWord : List ℕ → ℕ → Type 0
AsksWord text b = AsksLiteral text b ⊎ EndsNumber text b ⊎ AsksOperator text b

-- after the `:` before literals that are given
abbrev pub AsksShown : List ℕ → ℕ → Type 0
AsksShown text b = (concluding : List ℕ) × (shown : List ℕ) × (text ≡ concluding ++ 58 ∷ shown) × AsksLiteral shown b

abbrev pub AsksConclusion : Conclusion → List ℕ → ℕ → Type 0
AsksConclusion (Conclusion.Sat (Some literals)) text b = AsksShown text b
AsksConclusion (Conclusion.Bounds lower id upper (Some literals)) text b = AsksShown text b
AsksConclusion _ text b = ⊥

-- after the first word of a statement
abbrev pub AsksAfter : Statement → List ℕ → ℕ → Type 0
AsksAfter (Statement.Pol ws) text b = AsksWord text b
AsksAfter (Statement.Rup c) text b = AsksLiteral text b
AsksAfter (Statement.Soli literals) text b = AsksLiteral text b
AsksAfter (Statement.Solx literals) text b = AsksLiteral text b
AsksAfter (Statement.Delete ids) text b = EndsNumber text b
AsksAfter (Statement.Conclude c) text b = AsksConclusion c text b
AsksAfter _ text b = ⊥

-- the first word of a statement that may allocate
abbrev pub FirstWord : Statement → Language
FirstWord (Statement.Pol ws) = Bytes pol_word
FirstWord (Statement.Rup c) = Bytes rup_word
FirstWord (Statement.Soli literals) = Bytes soli_word
FirstWord (Statement.Solx literals) = Bytes solx_word
FirstWord (Statement.Delete ids) = Bytes del_word ⋅ Blanks1 ⋅ Bytes id_word
FirstWord (Statement.Conclude c) = Bytes conclusion_word
FirstWord _ = λ t. ⊥

abbrev pub Asks : Statement → List ℕ → ℕ → Type 0
Asks s text b = (word : List Letter) × (more : List ℕ) × FirstWord s word × (text ≡ bytes word ++ more) × AsksAfter s more b
