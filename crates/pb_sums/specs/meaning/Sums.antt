-- Names, terms, sums and linear texts.
use Rattle.pb_sums.specs.declared.linear.{Linear.Linear, Literal.Literal, Relation.Relation, Relation.TheVariants.AtLeast, Relation.TheVariants.Equal}
use Rattle.pb_sums.specs.declared.{linear.Term.Term, sum_kind.Spaces.Spaces, sum_kind.Spaces.TheVariants.White, sum_kind.Spaces.TheVariants.Blank}
use Rattle.pb_text.specs.meaning.{Numbers.Number, Spelling.Item, Classes.is_blank, Classes.is_letter, Classes.is_name_byte}
use Rattle.pb_text.specs.meaning.Languages.{Language, ◌⋅◌, Empty, Byte, Bytes, Each, Many, Some}
use Rattle.std.specs.Prelude.{◌≡◌, ℕ, Bool, true, false, List, [], ◌∷◌, IsTrue, ◌&&◌, ◌||◌, nat_eq, codes}
use Rattle.pb_sums.specs.declared.linear.SumEvent as event
use Rattle.pb_sums.specs.declared.sum_kind.Part as part

abbrev pub takes_line_feeds : Spaces → Bool
takes_line_feeds White = true
takes_line_feeds Blank = false

-- a blank, or for `White` also a line feed
abbrev pub is_space : Spaces → ℕ → Bool
is_space spaces b = is_blank b || (nat_eq b 10 && takes_line_feeds spaces)

-- a letter followed by one or more name bytes
abbrev pub IsName : List ℕ → Type 0
IsName [] = ⊥
IsName (b ∷ []) = ⊥
IsName (b ∷ c ∷ bs) = IsTrue (is_letter b) × Each (λ e. IsTrue (is_name_byte e)) (c ∷ bs)

-- a name, or `~` directly followed by a name
abbrev pub literal_bytes : Bool → List ℕ → List ℕ
literal_bytes true name = 126 ∷ name
literal_bytes false name = name

abbrev pub SpellsLiteral : Literal → Language
SpellsLiteral l = λ t. IsName l.name × Bytes (literal_bytes l.negated l.name) t

-- A sum and `;`, or a linear text with one of these relations.
abbrev pub reads_sums : part.Part → Bool
reads_sums part.TheVariants.Sum = true
reads_sums part.TheVariants.Linear = false
reads_sums part.TheVariants.AtLeast = false

abbrev pub allows : part.Part → Relation → Bool
allows part.TheVariants.Sum r = false
allows part.TheVariants.Linear r = true
allows part.TheVariants.AtLeast AtLeast = true
allows part.TheVariants.AtLeast Equal = false

module _ (spaces : Spaces) (limit : ℕ) where
  -- space*, and space+
  abbrev pub Spaces0 : Language
  Spaces0 = Many (λ b. IsTrue (is_space spaces b))

  abbrev pub Spaces1 : Language
  Spaces1 = Some (λ b. IsTrue (is_space spaces b))

  abbrev pub SpellsTerm : Term → Language
  SpellsTerm x = Number limit x.coefficient ⋅ Spaces1 ⋅ SpellsLiteral x.literal

  -- each term with space before it
  abbrev pub SpellsFurther : List Term → Language
  SpellsFurther [] = Empty
  SpellsFurther (x ∷ xs) = Spaces1 ⋅ SpellsTerm x ⋅ SpellsFurther xs

  -- terms with space between them
  abbrev pub SpellsSum : List Term → Language
  SpellsSum [] = Empty
  SpellsSum (x ∷ xs) = SpellsTerm x ⋅ SpellsFurther xs

  -- a sum, and optional space if it has a term
  abbrev pub Head : List Term → Language
  Head [] = Empty
  Head (x ∷ xs) = SpellsSum (x ∷ xs) ⋅ Spaces0

  abbrev pub SpellsRelation : Relation → Language
  SpellsRelation AtLeast = Bytes (codes ">=")
  SpellsRelation Equal = Byte 61

  abbrev pub SpellsLinear : Linear → Language
  SpellsLinear c = Head c.terms ⋅ SpellsRelation c.relation ⋅ Spaces0 ⋅ Number limit c.degree ⋅ Spaces0 ⋅ Byte 59

  -- what a machine reads
  abbrev pub Spells : part.Part → event.SumEvent → Language
  Spells want (event.TheVariants.Sum xs) = λ t. IsTrue (reads_sums want) × (SpellsSum xs ⋅ Spaces0 ⋅ Byte 59) t
  Spells want (event.TheVariants.Linear c) = λ t. IsTrue (allows want c.relation) × SpellsLinear c t

-- one text of the grammar, with nothing before it
abbrev pub IsOneText : Spaces → ℕ → part.Part → List (Item event.SumEvent) → Type 0
IsOneText spaces limit want [] = ⊥
IsOneText spaces limit want (i ∷ []) = (i.gap ≡ []) × Spells spaces limit want i.event i.text
IsOneText spaces limit want (i ∷ j ∷ rest) = ⊥
