-- The one text that is written for a value.
use Rattle.{pb_sums.specs.declared.linear.Term.Term, pb_sums.specs.meaning.Sums.IsName, pb_sums.specs.meaning.Sums.literal_bytes, std.specs.Fmt.signed_decimal}
use Rattle.pb_sums.specs.declared.linear.{Linear.Linear, Literal.Literal, Relation.Relation, Relation.TheVariants.AtLeast, Relation.TheVariants.Equal}
use Rattle.pb_text.specs.{declared.Place.Place, meaning.Languages.unmarked, meaning.Spelling.Letter, meaning.Spelling.plain, meaning.Spelling.digits_of}
use Rattle.std.specs.Prelude.{ℕ, suc, ◌≤◌, List, [], ◌∷◌, ◌++◌, ℤ, pos, negsuc, nat_abs, decimal, codes}

-- The value rules: magnitudes within the limit, and names of the grammar.
abbrev pub IsTerm : ℕ → Term → Type 0
IsTerm limit x = (nat_abs x.coefficient ≤ limit) × IsName x.literal.name

abbrev pub AreTerms : ℕ → List Term → Type 0
AreTerms limit [] = Unit {0}
AreTerms limit (x ∷ xs) = IsTerm limit x × AreTerms limit xs

abbrev pub IsLinear : ℕ → Linear → Type 0
IsLinear limit c = AreTerms limit c.terms × (nat_abs c.degree ≤ limit)

-- The text as bytes.
-- a sign, `+` before 0, and digits
abbrev pub weight_bytes : ℤ → List ℕ
weight_bytes (pos n) = 43 ∷ decimal n
weight_bytes (negsuc n) = 45 ∷ decimal (suc n)

abbrev pub term_bytes : Term → List ℕ
term_bytes x = weight_bytes x.coefficient ++ (32 ∷ literal_bytes x.literal.negated x.literal.name)

-- the terms, each with a space before it
unfoldable pub further_bytes : List Term → List ℕ
further_bytes [] = []
further_bytes (x ∷ xs) = 32 ∷ (term_bytes x ++ further_bytes xs)

abbrev pub sum_bytes : List Term → List ℕ
sum_bytes [] = []
sum_bytes (x ∷ xs) = term_bytes x ++ further_bytes xs

-- a sum, and a space if it has a term
abbrev pub head_bytes : List Term → List ℕ
head_bytes [] = []
head_bytes (x ∷ xs) = sum_bytes (x ∷ xs) ++ (32 ∷ [])

abbrev pub relation_bytes : Relation → List ℕ
relation_bytes AtLeast = codes ">="
relation_bytes Equal = codes "="

-- the degree is its digits, after a `-` if it is negative
abbrev pub linear_bytes : Linear → List ℕ
linear_bytes c = head_bytes c.terms ++ (relation_bytes c.relation ++ (32 ∷ (signed_decimal c.degree ++ codes " ;")))

-- a line, `:`, a column and a space
abbrev pub place_bytes : Place → List ℕ
place_bytes p = decimal p.line ++ (58 ∷ (decimal p.column ++ (32 ∷ [])))

-- The same text as letters.
abbrev pub degree_text : ℤ → List Letter
degree_text (pos n) = digits_of (decimal n)
degree_text (negsuc n) = unmarked 45 ∷ digits_of (decimal (suc n))

abbrev pub weight_text : ℤ → List Letter
weight_text (pos n) = unmarked 43 ∷ digits_of (decimal n)
weight_text (negsuc n) = unmarked 45 ∷ digits_of (decimal (suc n))

abbrev pub space : List Letter
space = unmarked 32 ∷ []

abbrev pub literal_text : Literal → List Letter
literal_text l = plain (literal_bytes l.negated l.name)

abbrev pub term_text : Term → List Letter
term_text x = weight_text x.coefficient ++ space ++ literal_text x.literal

abbrev pub further_text : List Term → List Letter
further_text [] = []
further_text (x ∷ xs) = space ++ term_text x ++ further_text xs

abbrev pub sum_text : List Term → List Letter
sum_text [] = []
sum_text (x ∷ xs) = term_text x ++ further_text xs

abbrev pub head_text : List Term → List Letter
head_text [] = []
head_text (x ∷ xs) = sum_text (x ∷ xs) ++ space

abbrev pub relation_text : Relation → List Letter
relation_text r = plain (relation_bytes r)

abbrev pub linear_text : Linear → List Letter
linear_text c = head_text c.terms ++ relation_text c.relation ++ space ++ degree_text c.degree ++ space ++ (unmarked 59 ∷ [])
