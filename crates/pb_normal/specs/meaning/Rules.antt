-- The rules of cutting planes on forms: the sum as a relation, all others as functions.
use Rattle.pb_normal.specs.declared.{entry.Entry.Entry, numbered.NumberedLiteral.NumberedLiteral}
use Rattle.pb_normal.specs.meaning.Form.{Form, total, size, low, bound, coefficient, at_least_0, IsOrdered}
use Rattle.std.specs.Int.{div_ceil}
use Rattle.std.specs.Prelude.{◌≡◌, ℕ, ◌+◌, ◌-◌, ◌*◌, ◌<◌, ◌==◌, nat_lt, pos, ◌+ℤ◌, Bool, not, false, ◌&&◌, ◌||◌, if◌then◌else◌, ◌⊎◌, List, [], ◌∷◌, map, filter, min, get_or}

-- The sum of two forms: coefficients and bounds are added, and the degree is bound plus low, at least 0.
pub record IsSum (f g r : Form) : Type 0 where
  pub ordered : IsOrdered r
  pub coefficients : (x : ℕ) → coefficient r x ≡ (coefficient f x +ℤ coefficient g x)
  pub degree : r.degree ≡ at_least_0 ((bound f +ℤ bound g) +ℤ pos (low r))

-- the size or the degree exceeds the limit
abbrev pub Passes : ℕ → Form → Type 0
Passes limit f = (limit < size f) ⊎ (limit < f.degree)

-- the sum of two forms, in unbounded integers, exceeds the limit
abbrev pub SumPasses : ℕ → Form → Form → Type 0
SumPasses limit f g = (r : Form) × IsSum f g r × Passes limit r

-- the same term with another coefficient
abbrev pub with_coefficient : Entry → ℕ → Entry
with_coefficient t n = record { variable = t.variable; negated = t.negated; coefficient = n }

abbrev pub multiplied : ℕ → Form → Form
multiplied k f = record { terms = map (λ t. with_coefficient t (t.coefficient * k)) f.terms; degree = f.degree * k }

-- the coefficients and the degree are rounded up
abbrev pub divided : ℕ → Form → Form
divided k f = record { terms = map (λ t. with_coefficient t (div_ceil t.coefficient k)) f.terms; degree = div_ceil f.degree k }

-- every coefficient is at most the degree, and terms with coefficient 0 are dropped
abbrev pub saturated : Form → Form
saturated f = record {
  terms = filter (λ t. nat_lt 0 t.coefficient) (map (λ t. with_coefficient t (min t.coefficient f.degree)) f.terms);
  degree = f.degree;
}

-- both literals of a variable
abbrev pub of_variable : ℕ → ℕ → Bool → Bool
of_variable x v _ = v == x

-- without the term on x, whose coefficient is subtracted from the degree
abbrev pub weakened : ℕ → Form → Form
weakened x f = record {
  terms = filter (λ t. not (t.variable == x)) f.terms;
  degree = f.degree - total (of_variable x) f.terms;
}

-- a literal alone, with degree 0
abbrev pub axiom_on : ℕ → Bool → Form
axiom_on x negated = record { terms = record { variable = x; negated = negated; coefficient = 1 } ∷ []; degree = 0 }

abbrev pub opposite : Entry → Entry
opposite t = record { variable = t.variable; negated = not t.negated; coefficient = t.coefficient }

-- each literal negated; it holds if f does not, provided that the degree of f is at least 1
abbrev pub negation_of : Form → Form
negation_of f = record { terms = map opposite f.terms; degree = size f + 1 - f.degree }

-- no assignment can satisfy it
abbrev pub IsContradiction : Form → Type 0
IsContradiction f = size f < f.degree

-- the sum of two forms, in unbounded integers, is a contradiction
abbrev pub SumIsContradiction : Form → Form → Type 0
SumIsContradiction f g = (r : Form) × IsSum f g r × IsContradiction r

-- the sum of two forms has this size and this degree
abbrev pub SumMeasures : Form → Form → ℕ → ℕ → Type 0
SumMeasures f g s d = (r : Form) × IsSum f g r × (size r ≡ s) × (r.degree ≡ d)

-- a list of values as an assignment
abbrev pub assignment : List Bool → ℕ → Bool
assignment values v = get_or values v false

-- exactly that literal
abbrev pub only : ℕ → Bool → ℕ → Bool → Bool
only x n v m = (v == x) && (if n then m else not m)

-- the literals of a list
abbrev pub on : List NumberedLiteral → ℕ → Bool → Bool
on [] x n = false
on (l ∷ ls) x n = only l.variable l.negated x n || on ls x n

-- the literal that is true if this one is false
abbrev pub negation : NumberedLiteral → NumberedLiteral
negation l = record { variable = l.variable; negated = not l.negated }

-- a literal with coefficient 1
abbrev pub unit_of : NumberedLiteral → Entry
unit_of l = record { variable = l.variable; negated = l.negated; coefficient = 1 }

-- each literal of the list with coefficient 1, no other literal, and this degree
pub record IsCountOf (literals : List NumberedLiteral) (degree : ℕ) (r : Form) : Type 0 where
  pub ordered : IsOrdered r
  pub coefficients : (x : ℕ) (n : Bool) → total (only x n) r.terms ≡ (if on literals x n then 1 else 0)
  pub degree_is : r.degree ≡ degree
