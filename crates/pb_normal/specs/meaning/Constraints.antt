-- Written constraints as forms: which sides each constraint loads as, the names that appear, and which constraints fit.
use Rattle.pb_normal.specs.declared.side.Side.{Side, TheVariants.AtLeast as least, TheVariants.AtMost as most}
use Rattle.pb_normal.specs.meaning.{Form.Form, Written.names_of, Written.magnitude, Written.IsSideOf}
use Rattle.pb_sums.specs.declared.linear.{Linear.Linear, Relation.Relation, Relation.TheVariants.AtLeast, Relation.TheVariants.Equal}
use Rattle.std.specs.{List.flat_map, List.AllZip, Prelude.ℕ, Prelude.◌+◌, Prelude.◌≤◌, Prelude.unsigned_abs, Prelude.List, Prelude.[], Prelude.◌∷◌, Prelude.map}

-- the names that are written in constraints, with repetitions
abbrev pub constraint_names : List Linear → List (List ℕ)
constraint_names = flat_map (λ c. names_of c.terms)

-- the sides that a constraint loads as: "at least", and for an equality then "at most"
abbrev pub sides_of : Relation → List Side
sides_of AtLeast = least ∷ []
sides_of Equal = least ∷ most ∷ []

-- each constraint with each of its sides, in order
abbrev pub with_sides : Relation → Linear → List (Side × Linear)
with_sides relation c = map (λ side. (side, c)) (sides_of relation)

abbrev pub sides_in : List Linear → List (Side × Linear)
sides_in = flat_map (λ c. with_sides c.relation c)

-- one form for each side, over these names
abbrev pub AreFormsOf : List (List ℕ) → List (Side × Linear) → List Form → Type 0
AreFormsOf names = AllZip (λ side r. IsSideOf names side.0 side.1 r)

-- the magnitudes of a constraint's coefficients and of its degree add up to at most the limit
abbrev pub Fits : ℕ → Linear → Type 0
Fits limit c = magnitude c.terms + unsigned_abs c.degree ≤ limit
