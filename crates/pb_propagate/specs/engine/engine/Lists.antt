-- Forms as lists of terms, the literals on a list, open sums, and derivations with their reasons.
use Rattle.pb_normal.specs.{declared.numbered.NumberedLiteral.NumberedLiteral, meaning.Rules.negation}
use Rattle.pb_propagate.specs.declared.term.Term.{Term}
use Rattle.std.specs.{Bool.beq, List.list_any}
use Rattle.std.specs.Prelude.{◌≡◌, ℕ, ◌+◌, ◌<◌, ◌≤◌, All, ◌==◌, ◌&&◌, ◌++◌, ◌∷◌, [], Bool, true, false, if◌then◌else◌, not, List, sum_by, Contains, Option, Some, None, slice_get, slice_index_or}

-- the two literals are equal
unfoldable pub same : NumberedLiteral → NumberedLiteral → Bool
same a b = (a.variable == b.variable) && (beq a.negated b.negated)

-- the literal is on the list
unfoldable pub has : List NumberedLiteral → NumberedLiteral → Bool
has list l = list_any (λ k. same k l) list

-- a constraint: terms and a degree
pub record Shape : Type 0 where
  pub terms : List Term
  pub degree : ℕ

-- an entry of a literal's list: a form that contains the literal, the position of its term there, and the coefficient
pub record Weighted : Type 0 where
  pub form : ℕ
  pub index : ℕ
  pub coefficient : ℕ

-- what a term adds to the open sum: nothing if its literal is falsified
unfoldable pub open_part : List NumberedLiteral → Term → ℕ
open_part list t = if has list (negation t.literal) then 0 else t.coefficient

-- the sum of the coefficients of the literals that are not falsified
abbrev pub open_sum : List NumberedLiteral → List Term → ℕ
open_sum list terms = sum_by (open_part list) terms

-- the literal may be propagated
pub record Puts (forms : List Shape) (list : List NumberedLiteral) (l : NumberedLiteral) : Type 0 where
  pub absent : has list l ≡ false
  pub not_falsified : has list (negation l) ≡ false
  pub form : Shape
  pub among : Contains forms form
  pub coefficient : ℕ
  pub term : Contains form.terms (record { literal = l; coefficient = coefficient })
  pub forced : open_sum list form.terms < form.degree + coefficient

-- the list starts with the given literals, and each further one was propagated
pub data Derives (forms : List Shape) (given : List NumberedLiteral) : List NumberedLiteral → Type 0 where
  begin : Derives forms given given
  put : {list : List NumberedLiteral} (l : NumberedLiteral) → Derives forms given list → Puts forms list l → Derives forms given (list ++ (l ∷ []))

-- the list starts with the given literals, and each further one was propagated by the constraint that is its reason
pub data HaveReasons (forms : List Shape) (reasons : List ℕ) (given : List NumberedLiteral) : List NumberedLiteral → Type 0 where
  from_given : HaveReasons forms reasons given given
  by_reason : {list : List NumberedLiteral} (l : NumberedLiteral) (s : ℕ) (x : Shape) → HaveReasons forms reasons given list → slice_get reasons l.variable ≡ Some s → slice_get forms s ≡ Some x → Puts (x ∷ []) list l → HaveReasons forms reasons given (list ++ (l ∷ []))

-- the literals of the list keep their reasons
abbrev pub KeepsReasons : List NumberedLiteral → List ℕ → List ℕ → Type 0
KeepsReasons list old new = (l : NumberedLiteral) (s : ℕ) → has list l ≡ true → slice_get old l.variable ≡ Some s → slice_get new l.variable ≡ Some s

-- the literal is on the list, and the constraint of the slot is its reason
abbrev pub IsDue : ℕ → List NumberedLiteral → List ℕ → NumberedLiteral → Type 0
IsDue slot list reasons l = (has list l ≡ true) × (slice_get reasons l.variable ≡ Some slot)

-- the list holds a literal and its negation, or a constraint has negative slack
pub data Conflicts (forms : List Shape) (list : List NumberedLiteral) : Type 0 where
  opposed : (l : NumberedLiteral) → has list l ≡ true → has list (negation l) ≡ true → Conflicts forms list
  broken : (form : Shape) → Contains forms form → open_sum list form.terms < form.degree → Conflicts forms list

-- each literal of the first list is on the second
abbrev pub IsWithin : List NumberedLiteral → List NumberedLiteral → Type 0
IsWithin a b = (l : NumberedLiteral) → has a l ≡ true → has b l ≡ true

-- literals were added after those of the first list
abbrev pub Extends : List NumberedLiteral → List NumberedLiteral → Type 0
Extends a b = (rest : List NumberedLiteral) × (b ≡ a ++ rest)

-- whether a variable's value is that of this literal
abbrev pub holds : Option Bool → Bool → Bool
holds None n = false
holds (Some m) n = beq (not m) n

unfoldable pub says : List (Option Bool) → NumberedLiteral → Bool
says values l = holds (slice_index_or values l.variable None) l.negated

-- one if there is no value
abbrev pub vacancy : Option Bool → ℕ
vacancy None = 1
vacancy (Some m) = 0

-- the sum of the coefficients
abbrev pub size : List Term → ℕ
size terms = sum_by (λ t. t.coefficient) terms

-- the variables are below this number
abbrev pub AreInside : ℕ → List Term → Type 0
AreInside variables terms = All (λ t. t.literal.variable < variables) terms

-- the form is not falsified, and none of its literals may be propagated
pub record IsSettled (form : Shape) (list : List NumberedLiteral) : Type 0 where
  pub met : form.degree ≤ open_sum list form.terms
  pub idle : (l : NumberedLiteral) → Puts (form ∷ []) list l → ⊥
