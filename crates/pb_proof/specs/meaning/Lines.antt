-- The statements of a proof, and their texts.
use Rattle.pb_lines.specs.meaning.LineEnds.{Feed, LineEnd}
use Rattle.pb_proof.specs.declared.{conclusion.Bound.Bound, conclusion.Conclusion.Conclusion, statement.Statement.Statement, word.PolWord.PolWord}
use Rattle.{pb_proof.specs.meaning.Postfix.IsPostfix, pb_sums.specs.declared.Literal.Literal, pb_sums.specs.declared.Relation.TheVariants.AtLeast}
use Rattle.pb_sums.specs.{declared.Linear.Linear, declared.Spaces.TheVariants.Blank, meaning.Sums.IsName, meaning.Sums.SpellsLiteral, meaning.Sums.SpellsLinear}
use Rattle.pb_text.specs.meaning.Languages.{Language, ◌⋅◌, Empty, Byte, Bytes, Blanks0, Blanks1}
use Rattle.pb_text.specs.meaning.Numbers.{Digits, Number, Count, signed}
use Rattle.std.specs.Prelude.{◌≡◌, ℕ, ℤ, pos, ◌<◌, ◌≤◌, Bool, true, false, List, [], ◌∷◌, length, Option, Some, None, codes}

-- The fixed words.
abbrev pub pseudo_word : List ℕ
pseudo_word = codes "pseudo-Boolean"

abbrev pub proof_word : List ℕ
proof_word = codes "proof"

abbrev pub version_word : List ℕ
version_word = codes "version"

abbrev pub two_word : List ℕ
two_word = codes "2.0"

abbrev pub f_word : List ℕ
f_word = codes "f"

abbrev pub pol_word : List ℕ
pol_word = codes "pol"

abbrev pub rup_word : List ℕ
rup_word = codes "rup"

abbrev pub soli_word : List ℕ
soli_word = codes "soli"

abbrev pub solx_word : List ℕ
solx_word = codes "solx"

abbrev pub del_word : List ℕ
del_word = codes "del"

abbrev pub id_word : List ℕ
id_word = codes "id"

abbrev pub output_word : List ℕ
output_word = codes "output"

abbrev pub conclusion_word : List ℕ
conclusion_word = codes "conclusion"

abbrev pub end_word : List ℕ
end_word = codes "end"

abbrev pub none_word : List ℕ
none_word = codes "NONE"

abbrev pub unsat_word : List ℕ
unsat_word = codes "UNSAT"

abbrev pub sat_word : List ℕ
sat_word = codes "SAT"

abbrev pub bounds_word : List ℕ
bounds_word = codes "BOUNDS"

abbrev pub inf_word : List ℕ
inf_word = codes "INF"

-- each with blank+ before it
abbrev pub Listed : {A : Type 0} → (A → Language) → List A → Language
Listed P [] = Empty
Listed P (x ∷ xs) = Blanks1 ⋅ P x ⋅ Listed P xs

-- `-` if it is negative
abbrev pub Minus : Bool → Language
Minus true = Byte 45
Minus false = Empty

-- an id: digits, and `-` before them if it counts back
abbrev pub SpellsId : ℕ → ℤ → Language
SpellsId top id = λ t. (negative : Bool) × (n : ℕ) × (0 < n) × (n ≤ top) × (id ≡ signed negative n) × (Minus negative ⋅ Digits n) t

-- a factor or a divisor: digits
abbrev pub Factor : ℕ → ℤ → Language
Factor limit k = λ t. (n : ℕ) × (0 < n) × (n ≤ limit) × (k ≡ pos n) × Digits n t

abbrev pub SpellsBound : ℕ → Bound → Language
SpellsBound limit (Bound.Finite z) = Number limit z
SpellsBound limit Bound.Infinite = Bytes inf_word

-- `:`, and literals with blank+ between them
abbrev pub SpellsShown : List Literal → Language
SpellsShown [] = Byte 58
SpellsShown (l ∷ ls) = Byte 58 ⋅ Blanks0 ⋅ SpellsLiteral l ⋅ Listed SpellsLiteral ls

-- nothing, or `:` and literals
abbrev pub LiteralsShown : Option (List Literal) → Language
LiteralsShown None = Empty
LiteralsShown (Some ls) = Blanks0 ⋅ SpellsShown ls

module _ (limit top : ℕ) where
  -- nothing, or `:` and an id
  abbrev pub IdShown : Option ℤ → Language
  IdShown None = Empty
  IdShown (Some id) = Blanks0 ⋅ Byte 58 ⋅ Blanks0 ⋅ SpellsId top id

  -- a word of an expression; a factor comes before `*` or `d`, and a name before `w`
  abbrev pub SpellsWord : PolWord → Language
  SpellsWord (PolWord.Id id) = SpellsId top id
  SpellsWord (PolWord.Axiom literal) = SpellsLiteral literal
  SpellsWord PolWord.Add = Byte 43
  SpellsWord (PolWord.Multiply k) = Factor limit k ⋅ Blanks1 ⋅ Byte 42
  SpellsWord (PolWord.Divide k) = Factor limit k ⋅ Blanks1 ⋅ Byte 100
  SpellsWord PolWord.Saturate = Byte 115
  SpellsWord (PolWord.Weaken name) = λ t. IsName name × (Bytes name ⋅ Blanks1 ⋅ Byte 119) t

  abbrev pub SpellsConclusion : Conclusion → Language
  SpellsConclusion Conclusion.NoClaim = Bytes none_word
  SpellsConclusion (Conclusion.Unsat id) = Bytes unsat_word ⋅ IdShown id
  SpellsConclusion (Conclusion.Sat shown) = Bytes sat_word ⋅ LiteralsShown shown
  SpellsConclusion (Conclusion.Bounds lower id upper shown) =
      Bytes bounds_word ⋅ Blanks1 ⋅ SpellsBound limit lower ⋅ IdShown id ⋅ Blanks1 ⋅ SpellsBound limit upper ⋅ LiteralsShown shown

  -- The texts after the first word of a statement.
  abbrev pub SpellsCount : Option ℕ → Language
  SpellsCount None = LineEnd
  SpellsCount (Some n) = Blanks1 ⋅ Count top n ⋅ LineEnd

  abbrev pub SpellsWords : List PolWord → Language
  SpellsWords ws = λ t. IsPostfix ws × (Listed SpellsWord ws ⋅ LineEnd) t

  abbrev pub SpellsRup : Linear → Language
  SpellsRup c = λ t. (c.relation ≡ AtLeast) × (Blanks1 ⋅ SpellsLinear Blank limit c ⋅ Feed) t

  abbrev pub SpellsLiterals : List Literal → Language
  SpellsLiterals ls = Listed SpellsLiteral ls ⋅ LineEnd

  abbrev pub SpellsIds : List ℤ → Language
  SpellsIds ids = λ t. (0 < length ids) × (Listed (SpellsId top) ids ⋅ LineEnd) t

  abbrev pub SpellsConclusionLine : Conclusion → Language
  SpellsConclusionLine c = Blanks1 ⋅ SpellsConclusion c ⋅ LineEnd

  -- A statement from its first word through its line feed. The closing words have no line feed.
  abbrev pub SpellsStatement : Statement → Language
  SpellsStatement Statement.Header =
      Bytes pseudo_word ⋅ Blanks1 ⋅ Bytes proof_word ⋅ Blanks1 ⋅ Bytes version_word ⋅ Blanks1 ⋅ Bytes two_word ⋅ Feed
  SpellsStatement (Statement.F count) = Bytes f_word ⋅ SpellsCount count
  SpellsStatement (Statement.Pol ws) = Bytes pol_word ⋅ SpellsWords ws
  SpellsStatement (Statement.Rup c) = Bytes rup_word ⋅ SpellsRup c
  SpellsStatement (Statement.Soli ls) = Bytes soli_word ⋅ SpellsLiterals ls
  SpellsStatement (Statement.Solx ls) = Bytes solx_word ⋅ SpellsLiterals ls
  SpellsStatement (Statement.Delete ids) = Bytes del_word ⋅ Blanks1 ⋅ Bytes id_word ⋅ SpellsIds ids
  SpellsStatement Statement.Output = Bytes output_word ⋅ Blanks1 ⋅ Bytes none_word ⋅ LineEnd
  SpellsStatement (Statement.Conclude c) = Bytes conclusion_word ⋅ SpellsConclusionLine c
  SpellsStatement Statement.End = Bytes end_word ⋅ Blanks1 ⋅ Bytes pseudo_word ⋅ Blanks1 ⋅ Bytes proof_word
