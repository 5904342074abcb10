-- Forms: positive coefficients on literals, one literal for each variable, and a degree.
use Rattle.pb_normal.specs.declared.entry.Entry.{Entry}
use Rattle.std.specs.Prelude.{◌≡◌, ℕ, ◌+◌, ◌<◌, ◌≤◌, ◌^◌, ◌==◌, ℤ, pos, negsuc, ◌-ℤ◌, ◌≤ℤ◌, unsigned_abs, Bool, true, not, ◌&&◌, ◌↔◌, if◌then◌else◌, List, [], ◌∷◌, slice_get, Some, All}

-- an entry's coefficient if its literal counts, and 0 otherwise
abbrev pub counted : (ℕ → Bool → Bool) → Entry → ℕ
counted p t = if p t.variable t.negated then t.coefficient else 0

-- the sum of the coefficients of the literals that count
abbrev pub total : (ℕ → Bool → Bool) → List Entry → ℕ
total p [] = 0
total p (t ∷ ts) = counted p t + total p ts

-- Which literals count: all of them, the negated ones, a variable, its negation, those that are true at an assignment.
abbrev pub each : ℕ → Bool → Bool
each _ _ = true

abbrev pub negative : ℕ → Bool → Bool
negative _ n = n

abbrev pub plain_of : ℕ → ℕ → Bool → Bool
plain_of x v n = (v == x) && not n

abbrev pub negated_of : ℕ → ℕ → Bool → Bool
negated_of x v n = (v == x) && n

abbrev pub true_at : (ℕ → Bool) → ℕ → Bool → Bool
true_at a v n = if n then not (a v) else a v

-- the variables rise, beginning at n or later, and no coefficient is 0
abbrev pub IsRising : ℕ → List Entry → Type 0
IsRising n [] = Unit {0}
IsRising n (t ∷ ts) = (n ≤ t.variable) × (0 < t.coefficient) × IsRising (t.variable + 1) ts

-- z, or 0 if z is below 0
abbrev pub at_least_0 : ℤ → ℕ
at_least_0 (pos n) = n
at_least_0 (negsuc _) = 0

pub record Form : Type 0 where
  pub terms : List Entry
  pub degree : ℕ

-- the sum of all coefficients, and of those on negations
abbrev pub size : Form → ℕ
size f = total each f.terms

abbrev pub low : Form → ℕ
low f = total negative f.terms

-- the coefficient of x minus the coefficient of its negation
abbrev pub coefficient : Form → ℕ → ℤ
coefficient f x = pos (total (plain_of x) f.terms) -ℤ pos (total (negated_of x) f.terms)

-- the degree if all coefficients were on variables that are not negated
abbrev pub bound : Form → ℤ
bound f = pos f.degree -ℤ pos (low f)

-- the coefficients of the true literals add up to at least the degree
abbrev pub Holds : (ℕ → Bool) → Form → Type 0
Holds a f = f.degree ≤ total (true_at a) f.terms

-- all variables are in the set
abbrev pub IsOver : (ℕ → Bool) → Form → Type 0
IsOver p f = All (λ t. p t.variable ≡ true) f.terms

-- the two assignments agree on all variables
abbrev pub AgreeOn : (ℕ → Bool) → (ℕ → Bool) → Form → Type 0
AgreeOn a b f = All (λ t. a t.variable ≡ b t.variable) f.terms

-- r holds if f does
abbrev pub Follows : Form → Form → Type 0
Follows f r = (a : ℕ → Bool) → Holds a f → Holds a r

-- r holds if both f and g do
abbrev pub FollowsBoth : Form → Form → Form → Type 0
FollowsBoth f g r = (a : ℕ → Bool) → Holds a f → Holds a g → Holds a r

-- r holds if and only if f does not
abbrev pub IsOpposite : Form → Form → Type 0
IsOpposite f r = (a : ℕ → Bool) → Holds a r ↔ ¬ Holds a f

-- at most one entry for each variable, in the order of the variables
abbrev pub IsOrdered : Form → Type 0
IsOrdered f = IsRising 0 f.terms

-- what holds for every normal form, whatever the limits
pub record IsNormal (f : Form) : Type 0 where
  pub ordered : IsOrdered f
  pub size_in : size f < 2 ^ 127
  pub degree_in : f.degree < 2 ^ 127

-- size and degree are within the limit
pub record IsWithin (limit : ℕ) (f : Form) : Type 0 where
  pub size_in : size f ≤ limit
  pub degree_in : f.degree ≤ limit

-- the parts of a term: its variable, whether it is negated, and its coefficient
pub record ReadsTerm (ts : List Entry) (i : ℕ) (r : ℕ × Bool × ℤ) : Type 0 where
  pub is : slice_get ts i ≡ Some record { variable = r.0; negated = r.1; coefficient = unsigned_abs r.2 }
  pub positive : pos 1 ≤ℤ r.2
