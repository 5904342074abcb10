-- Instances in OPB: their statements, with the white space before them, and the texts of the statements.
use Rattle.pb_opb.specs.declared.event.OpbEvent.{OpbEvent, TheVariants.Header, TheVariants.Comment, TheVariants.Objective, TheVariants.Constraint}
use Rattle.pb_sums.specs.{declared.Spaces.TheVariants.White, declared.Term.Term, meaning.Sums.SpellsSum, meaning.Sums.SpellsLinear}
use Rattle.pb_text.specs.meaning.{Blank.IsInLine, Classes.is_blank, Classes.is_white, Numbers.Count, Spelling.Item, Whole.events_of}
use Rattle.pb_text.specs.meaning.Languages.{Language, ◌⋅◌, Byte, Bytes, Each, Many, Blanks0, Blanks1}
use Rattle.std.specs.Prelude.{◌≡◌, ℕ, suc, List, [], ◌∷◌, IsTrue, codes}

-- the fixed words
abbrev pub variable_word : List ℕ
variable_word = codes "#variable="

abbrev pub constraint_word : List ℕ
constraint_word = codes "#constraint="

abbrev pub min_word : List ℕ
min_word = codes "min:"

-- white*
abbrev pub Whites0 : Language
Whites0 = Many (λ b. IsTrue (is_white b))

-- nothing, or a blank and then any bytes except line feeds
abbrev pub IsTail : List ℕ → Type 0
IsTail [] = Unit {0}
IsTail (b ∷ bytes) = IsTrue (is_blank b) × IsInLine bytes

-- the first line
abbrev pub SpellsHeader : ℕ → ℕ → ℕ → List ℕ → Language
SpellsHeader top variables constraints tail =
    Byte 42 ⋅ Blanks0 ⋅ Bytes variable_word ⋅ Blanks0 ⋅ Count top variables
    ⋅ Blanks1 ⋅ Bytes constraint_word ⋅ Blanks0 ⋅ Count top constraints ⋅ Bytes tail ⋅ Byte 10

-- `*`, the text, and a line feed
abbrev pub SpellsComment : List ℕ → Language
SpellsComment text = Byte 42 ⋅ Bytes text ⋅ Byte 10

abbrev pub SpellsObjective : ℕ → List Term → Language
SpellsObjective limit terms = Bytes min_word ⋅ Whites0 ⋅ SpellsSum White limit terms ⋅ Whites0 ⋅ Byte 59

-- the text of a statement after the header
abbrev pub SpellsEntry : ℕ → OpbEvent → Language
SpellsEntry limit (Header variables constraints tail) = λ t. ⊥
SpellsEntry limit (Comment bytes) = λ t. IsInLine bytes × SpellsComment bytes t
SpellsEntry limit (Objective terms) = SpellsObjective limit terms
SpellsEntry limit (Constraint linear) = SpellsLinear White limit linear

-- a list of such statements, each after white space
abbrev pub AreSpelled : ℕ → List (Item OpbEvent) → Type 0
AreSpelled limit [] = Unit {0}
AreSpelled limit (i ∷ rest) = Each (λ b. IsTrue (is_white b)) i.gap × SpellsEntry limit i.event i.text × AreSpelled limit rest

-- how many constraints there are
abbrev pub constraint_count : List OpbEvent → ℕ
constraint_count [] = 0
constraint_count (Constraint linear ∷ events) = suc (constraint_count events)
constraint_count (_ ∷ events) = constraint_count events

-- no objective
abbrev pub HasNoObjective : List OpbEvent → Type 0
HasNoObjective [] = Unit {0}
HasNoObjective (Objective terms ∷ events) = ⊥
HasNoObjective (_ ∷ events) = HasNoObjective events

-- no objective, or one before every constraint
abbrev pub HasObjectiveFirst : List OpbEvent → Type 0
HasObjectiveFirst [] = Unit {0}
HasObjectiveFirst (Comment bytes ∷ events) = HasObjectiveFirst events
HasObjectiveFirst (_ ∷ events) = HasNoObjective events

-- nothing, or the last one is a constraint
abbrev pub EndsInConstraint : List OpbEvent → Type 0
EndsInConstraint [] = Unit {0}
EndsInConstraint (Constraint linear ∷ []) = Unit {0}
EndsInConstraint (_ ∷ []) = ⊥
EndsInConstraint (_ ∷ e ∷ events) = EndsInConstraint (e ∷ events)

-- What comes after a header that announces n constraints: these, comments, and at most one objective before them. It
-- ends in a constraint, and is empty if n is 0.
pub record IsBody (limit n : ℕ) (items : List (Item OpbEvent)) : Type 0 where
  pub spelled : AreSpelled limit items
  pub count : constraint_count (events_of items) ≡ n
  pub objective : HasObjectiveFirst (events_of items)
  pub last : EndsInConstraint (events_of items)

module _ (limit top : ℕ) where
  -- the header, and the body that it announces
  abbrev pub IsBegun : Item OpbEvent → List (Item OpbEvent) → OpbEvent → Type 0
  IsBegun i rest (Header variables constraints tail) =
      (i.gap ≡ []) × IsTail tail × SpellsHeader top variables constraints tail i.text × IsBody limit constraints rest
  IsBegun i rest _ = ⊥

  -- an instance
  abbrev pub IsInstance : List (Item OpbEvent) → Type 0
  IsInstance [] = ⊥
  IsInstance (i ∷ rest) = IsBegun i rest i.event
