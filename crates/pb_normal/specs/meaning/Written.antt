-- Written constraints: signed coefficients on literals by name. Terms may repeat a name and may be zero.
use Rattle.pb_normal.specs.declared.{entry.Entry.Entry, side.Side.Side, side.Side.TheVariants.AtLeast as least, side.Side.TheVariants.AtMost as most}
use Rattle.pb_normal.specs.meaning.Form.{Form, Holds, IsOrdered, coefficient, low, at_least_0}
use Rattle.pb_sums.specs.declared.linear.{Linear.Linear, Relation.Relation, Relation.TheVariants.AtLeast, Relation.TheVariants.Equal, Term.Term}
use Rattle.std.specs.Prelude.{◌≡◌, ℕ, ◌+◌, ◌<◌, ℤ, pos, ◌+ℤ◌, ◌-ℤ◌, ◌≤ℤ◌, neg_ℤ, unsigned_abs, Bool, not, ◌↔◌, if◌then◌else◌, List, [], ◌∷◌, map, length, slice_get, get_or, Some, All}
use Rattle.std.specs.Str.{bytes_eq}

-- the names of the terms
abbrev pub names_of : List Term → List (List ℕ)
names_of ts = map (λ t. t.literal.name) ts

-- the sum of the magnitudes
abbrev pub magnitude : List Term → ℕ
magnitude [] = 0
magnitude (t ∷ ts) = unsigned_abs t.coefficient + magnitude ts

-- the coefficients on the name minus those on its negation
abbrev pub written_on : List ℕ → List Term → ℤ
written_on x [] = pos 0
written_on x (t ∷ ts) =
    (if bytes_eq t.literal.name x then (if t.literal.negated then neg_ℤ t.coefficient else t.coefficient) else pos 0) +ℤ written_on x ts

-- the sum of the coefficients on negations
abbrev pub on_negations : List Term → ℤ
on_negations [] = pos 0
on_negations (t ∷ ts) = (if t.literal.negated then t.coefficient else pos 0) +ℤ on_negations ts

-- the sum of the coefficients whose literals are true, at an assignment of the names
abbrev pub true_sum : (List ℕ → Bool) → List Term → ℤ
true_sum a [] = pos 0
true_sum a (t ∷ ts) =
    (if (if t.literal.negated then not (a t.literal.name) else a t.literal.name) then t.coefficient else pos 0) +ℤ true_sum a ts

-- r is the form of "the terms' sum is at least d", over the numbers of these names
pub record IsFormOf (names : List (List ℕ)) (ts : List Term) (d : ℤ) (r : Form) : Type 0 where
  pub ordered : IsOrdered r
  pub named : All (λ t. t.variable < length names) r.terms
  pub coefficients : (x : ℕ) (name : List ℕ) → slice_get names x ≡ Some name → coefficient r x ≡ written_on name ts
  pub degree : r.degree ≡ at_least_0 ((d -ℤ on_negations ts) +ℤ pos (low r))

-- A side of a constraint: as it is, or with every coefficient and the degree negated. The negated side says that the
-- sum is at most the degree.
abbrev pub side_number : Side → ℤ → ℤ
side_number least z = z
side_number most z = neg_ℤ z

abbrev pub side_term : Side → Term → Term
side_term side t = record { coefficient = side_number side t.coefficient; literal = t.literal }

abbrev pub side_terms : Side → List Term → List Term
side_terms side ts = map (side_term side) ts

-- r is the form of one side of a constraint
abbrev pub IsSideOf : List (List ℕ) → Side → Linear → Form → Type 0
IsSideOf names side linear r = IsFormOf names (side_terms side linear.terms) (side_number side linear.degree) r

-- an assignment of the names as an assignment of their numbers
abbrev pub by_number : List (List ℕ) → (List ℕ → Bool) → ℕ → Bool
by_number names a x = a (get_or names x [])

-- the sum compares with the degree as the relation says
abbrev pub Meets : (List ℕ → Bool) → Relation → Linear → Type 0
Meets a AtLeast linear = linear.degree ≤ℤ true_sum a linear.terms
Meets a Equal linear = true_sum a linear.terms ≡ linear.degree

-- the constraint holds at an assignment of the names
abbrev pub HoldsWritten : (List ℕ → Bool) → Linear → Type 0
HoldsWritten a linear = Meets a linear.relation linear

-- the sum is at least the degree, or at most
abbrev pub MeetsSide : (List ℕ → Bool) → Side → Linear → Type 0
MeetsSide a least linear = linear.degree ≤ℤ true_sum a linear.terms
MeetsSide a most linear = true_sum a linear.terms ≤ℤ linear.degree

-- r holds if and only if that side of the constraint does
abbrev pub SameSolutions : List (List ℕ) → Side → Linear → Form → Type 0
SameSolutions names side linear r = (a : List ℕ → Bool) → Holds (by_number names a) r ↔ MeetsSide a side linear

-- the constraint holds if and only if r does, or if and only if both r and s do
abbrev pub SameAsForm : List (List ℕ) → Linear → Form → Type 0
SameAsForm names linear r = (a : List ℕ → Bool) → HoldsWritten a linear ↔ Holds (by_number names a) r

abbrev pub SameAsForms : List (List ℕ) → Linear → Form → Form → Type 0
SameAsForms names linear r s = (a : List ℕ → Bool) → HoldsWritten a linear ↔ (Holds (by_number names a) r × Holds (by_number names a) s)

-- a form written with the names of its variables
abbrev pub term_of : List (List ℕ) → Entry → Term
term_of names t = record {
  coefficient = pos t.coefficient;
  literal = record { name = get_or names t.variable []; negated = t.negated };
}

abbrev pub linear_of : List (List ℕ) → Form → Linear
linear_of names f = record { terms = map (term_of names) f.terms; relation = AtLeast; degree = pos f.degree }
