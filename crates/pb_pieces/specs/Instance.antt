-- An instance in flat arrays.
use Rattle.pb_opb.specs.declared.OpbEvent.{OpbEvent, TheVariants.Header, TheVariants.Comment, TheVariants.Objective, TheVariants.Constraint}
use Rattle.pb_pieces.specs.{Flat.HoldNamed, Places.HoldPlaces, Rows.HoldRows, declared.instance.Flat.Flat, declared.places.Span.Span, declared.rows.Row.Row}
use Rattle.pb_sums.specs.declared.{Term.Term, linear.Relation.Relation, linear.Relation.TheVariants.AtLeast, linear.Relation.TheVariants.Equal}
use Rattle.pb_text.specs.declared.Spanned.{Spanned}
use Rattle.std.specs.{List.flat_map, Prelude.ℕ, Prelude.◌+◌, Prelude.pos, Prelude.List, Prelude.[], Prelude.◌∷◌, Prelude.◌++◌, Prelude.length}

abbrev pub kind_code : Relation → ℕ
kind_code AtLeast = 1
kind_code Equal = 2

-- the terms of a statement
abbrev pub terms_in : OpbEvent → List Term
terms_in (Header variables constraints tail) = []
terms_in (Comment text) = []
terms_in (Objective terms) = terms
terms_in (Constraint c) = c.terms

-- the row of a statement, with the number of terms before it, if it has one
abbrev pub row_in : ℕ → OpbEvent → List Row
row_in n (Header variables constraints tail) = []
row_in n (Comment text) = []
row_in n (Objective terms) = record { kind = 0; end = n + length terms; degree = pos 0 } ∷ []
row_in n (Constraint c) = record { kind = kind_code c.relation; end = n + length c.terms; degree = c.degree } ∷ []

-- where the row of a statement is, if it has one
abbrev pub span_in : Spanned OpbEvent → OpbEvent → List Span
span_in m (Header variables constraints tail) = []
span_in m (Comment text) = []
span_in m (Objective terms) = record { first = m.first; past = m.past } ∷ []
span_in m (Constraint c) = record { first = m.first; past = m.past } ∷ []

abbrev pub terms_of : List (Spanned OpbEvent) → List Term
terms_of = flat_map (λ m. terms_in m.event)

abbrev pub places_of : List (Spanned OpbEvent) → List Span
places_of = flat_map (λ m. span_in m m.event)

abbrev pub rows_from : ℕ → List (Spanned OpbEvent) → List Row
rows_from n [] = []
rows_from n (m ∷ ms) = row_in n m.event ++ rows_from (n + length (terms_in m.event)) ms

pub record HoldAll (terms : List Term) (rows : List Row) (spans : List Span) (f : Flat) : Type 0 where
  pub named : HoldNamed terms f.named
  pub rows_are : HoldRows rows f.rows
  pub places_are : HoldPlaces spans f.places

-- The arrays are those of the statements: the objective and the constraints in order, with all terms one after another.
abbrev pub IsFlatOf : List (Spanned OpbEvent) → Flat → Type 0
IsFlatOf spans = HoldAll (terms_of spans) (rows_from 0 spans) (places_of spans)
