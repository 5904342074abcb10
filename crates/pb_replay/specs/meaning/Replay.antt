-- The state of a replay, and parts of what statements do
use Rattle.{pb_normal.specs.declared.Side.Side, pb_normal.specs.declared.numbered.NumberedLiteral.NumberedLiteral, pb_sums.specs.declared.Literal.Literal}
use Rattle.pb_normal.specs.meaning.{Constraints.Fits, Form.Form, Form.Holds, Form.IsWithin, Names.number_in, Written.true_sum, Written.IsSideOf}
use Rattle.pb_normal.specs.meaning.Rules.{IsSum, IsCountOf, multiplied, divided, saturated, weakened, axiom_on, assignment, negation, on}
use Rattle.{pb_proof.specs.declared.Stage.Stage, pb_proof.specs.declared.Stage.TheVariants.Opening, pb_sums.specs.declared.Linear.Linear}
use Rattle.pb_proof.specs.meaning.Postfix.{Tree, Constraint, LiteralAxiom, Sum, Product, Quotient, Saturation, Weakening}
use Rattle.pb_propagate.specs.meaning.Propagation.{MeetsConflict, IsCompletion}
use Rattle.pb_replay.specs.declared.fault.Fault.TheVariants.{Overflow, NoSuchId, Conflict, NotTotal, Violates, IdsSpent}
use Rattle.pb_replay.specs.{declared.verdict.Verdict.Verdict, meaning.Problem.Problem, meaning.Problem.objective_of}
use Rattle.pb_replay.specs.meaning.Answer.{Answer, gives, need, each_below, found, some, after}
use Rattle.std.specs.Prelude.{◌≡◌, ℕ, zero, suc, ◌+◌, ◌-◌, ◌<◌, nat_lt, ℤ, pos, negsuc, unsigned_abs, Bool, true, false, ◌⊎◌, if◌then◌else◌, List, [], ◌∷◌}
use Rattle.std.specs.Prelude.{◌++◌, length, map, get_or, set, Contains, Option, Some, None, Ok}

-- a solution: its values by the numbers of names, and the value of the objective
pub record Logged : Type 0 where
  pub values : List Bool
  pub value : ℤ

-- The constraint with id i is at index i - 1, so the newest id is the length. A name's number is its index.
pub record State : Type 0 where
  pub live : List (Option Form)
  pub names : List (List ℕ)
  pub logged : List Logged
  pub next : Stage
  pub concluded : Option Verdict

abbrev pub first_state : Problem → State
first_state v = record { live = []; names = v.names; logged = []; next = Opening; concluded = None }

-- the value of a name, at an assignment of the numbers of names
abbrev pub by_name : List (List ℕ) → (ℕ → Bool) → List ℕ → Bool
by_name names a name = a (number_in names name)

-- the objective's value, at an assignment of the numbers of names
abbrev pub value : Problem → (ℕ → Bool) → ℤ
value v a = true_sum (by_name v.names a) (objective_of v.objective)

-- the index of an id, if this many were given; a negative id counts back from the newest; their number if it was never given
abbrev pub place : ℕ → ℤ → ℕ
place newest (pos zero) = newest
place newest (pos (suc n)) = n
place newest (negsuc m) = if nat_lt m newest then newest - (m + 1) else newest

-- the live form has this id
abbrev pub IsLive : List (Option Form) → ℤ → Form → Type 0
IsLive live i f = get_or live (place (length live) i) None ≡ Some f

-- a literal with its name's number
abbrev pub numbered_one : List (List ℕ) → Literal → NumberedLiteral
numbered_one names l = record { variable = number_in names l.name; negated = l.negated }

abbrev pub numbered : List (List ℕ) → List Literal → List NumberedLiteral
numbered names ls = map (numbered_one names) ls

abbrev pub limited : ℕ → Form → Answer Form
limited limit r = need (IsWithin limit r) Overflow (gives r)

-- the form of an expression; the fault is that of its first word whose own expression has no form
abbrev pub FormOfExpression : ℕ → List (List ℕ) → List (Option Form) → Tree → Answer Form
FormOfExpression limit names live (Constraint id) = found (IsLive live id) (NoSuchId id) (λ f. gives f)
FormOfExpression limit names live (LiteralAxiom l) = gives (axiom_on (number_in names l.name) l.negated)
FormOfExpression limit names live (Sum a b) =
    after (FormOfExpression limit names live a) (λ f. after (FormOfExpression limit names live b) (λ g. some (IsSum f g) (limited limit)))
FormOfExpression limit names live (Product a k) = after (FormOfExpression limit names live a) (λ f. limited limit (multiplied (unsigned_abs k) f))
FormOfExpression limit names live (Quotient a k) =
    after (FormOfExpression limit names live a) (λ f. gives (divided (unsigned_abs k) f))
FormOfExpression limit names live (Saturation a) = after (FormOfExpression limit names live a) (λ f. gives (saturated f))
FormOfExpression limit names live (Weakening a name) = after (FormOfExpression limit names live a) (λ f. gives (weakened (number_in names name) f))

-- continues with the form of one side of a written constraint
abbrev pub normal_form : {A : Type 0} → ℕ → List (List ℕ) → Side → Linear → (Form → Answer A) → Answer A
normal_form limit names side linear next = need (Fits limit linear) Overflow (some (IsSideOf names side linear) next)

abbrev pub HasValue : List NumberedLiteral → ℕ → Type 0
HasValue list k = (on list k false ≡ true) ⊎ (on list k true ≡ true)

-- the list's values of the first names
pub record AreValues (list : List NumberedLiteral) (names : ℕ) (values : List Bool) : Type 0 where
  pub count : length values ≡ names
  pub each : (k : ℕ) → k < names → get_or values k false ≡ on list k false

abbrev pub no_form : Form
no_form = record { terms = []; degree = 0 }

abbrev pub logged_of : Problem → List Bool → Logged
logged_of v values = record { values = values; value = value v (assignment values) }

-- the values of a closed list, if they are a solution: each of this many names has one, and all constraints of the instance
-- hold
abbrev pub Solution : Problem → ℕ → List NumberedLiteral → Answer Logged
Solution v names list =
    each_below (HasValue list) names NotTotal
    (some (AreValues list names) (λ values.
    each_below (λ k. Holds (assignment values) (get_or v.loaded k no_form)) (length v.loaded) (λ k. Violates (k + 1))
    (gives (logged_of v values))))

-- the completion of given literals over a set of forms, if no conflict is met and it is a solution
abbrev pub Completed : Problem → (Form → Type 0) → ℕ → List NumberedLiteral → Answer Logged
Completed v forms names given =
    need (MeetsConflict forms given → ⊥) Conflict
    (some (IsCompletion forms given) (Solution v names))

-- a solution by the instance's own constraints
abbrev pub Shown : Problem → List NumberedLiteral → Logged → Type 0
Shown v given g = Completed v (Contains v.loaded) (length v.names) given (Ok g)

-- each literal negated
abbrev pub negations : List NumberedLiteral → List NumberedLiteral
negations = map negation

-- the clause of the negations of the given literals
abbrev pub Excludes : List NumberedLiteral → Form → Type 0
Excludes given = IsCountOf (negations given) 1

-- deletes the ids in order
abbrev pub Deleted : List (Option Form) → List ℤ → Answer (List (Option Form))
Deleted live [] = gives live
Deleted live (i ∷ is) = found (IsLive live i) (NoSuchId i) (λ f. Deleted (set live (place (length live) i) None) is)

-- one more form, and the solutions that are then logged
abbrev pub added : ℕ → State → List Logged → Form → Answer State
added top s logged r = need (length s.live < top) IdsSpent (gives (record s { live = s.live ++ (Some r ∷ []); logged = logged }))
