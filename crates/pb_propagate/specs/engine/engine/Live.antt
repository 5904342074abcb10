-- The engine as its callers see it.
use Rattle.pb_normal.specs.{declared.numbered.NumberedLiteral.NumberedLiteral, meaning.Form.Form, meaning.Rules.on}
use Rattle.std.specs.Prelude.{◌≡◌, ℕ, Bool, not, false, List, length, Option, Some, None, slice_index_or, if◌then◌else◌}
pub use Rattle.pb_propagate.specs.meaning.Propagation.{Live}

-- the forms by number, the variables, the visits of the last test, and whether an allocation failed in the middle of a call
pub record Standing : Type 0 where
  pub forms : List (Option Form)
  pub variables : ℕ
  pub visits : ℕ
  pub spent : Bool

-- whether a literal of a variable, negated or not, is true at its value
abbrev pub value_says : Option Bool → Bool → Bool
value_says None n = false
value_says (Some m) n = if n then not m else m

-- a literal is on the list if and only if its variable has a value and the literal is true at it
abbrev pub Gives : List NumberedLiteral → List (Option Bool) → Type 0
Gives list values = (v : ℕ) (n : Bool) → on list v n ≡ value_says (slice_index_or values v None) n

-- how many terms a form has, and whether there is one
abbrev pub terms_in : Option Form → ℕ
terms_in None = 0
terms_in (Some f) = length f.terms

abbrev pub one_in : Option Form → ℕ
one_in None = 0
one_in (Some f) = 1
