-- Propagation over a set of forms. A list of literals has the newest first. Only the set of its literals matters.
use Rattle.pb_normal.specs.{declared.numbered.NumberedLiteral.NumberedLiteral, meaning.Form.Form, meaning.Form.Holds, meaning.Form.total}
use Rattle.pb_normal.specs.meaning.Rules.{negation_of, on, only}
use Rattle.std.specs.Prelude.{◌≡◌, ℕ, ◌+◌, ◌<◌, Bool, true, false, not, ◌⊎◌, List, [], ◌∷◌, Contains, Option, Some}

-- the literals that a list does not falsify
abbrev pub opened : List NumberedLiteral → ℕ → Bool → Bool
opened list v n = not (on list v (not n))

-- the literal may be propagated
pub record MayPropagate (F : Form → Type 0) (list : List NumberedLiteral) (l : NumberedLiteral) : Type 0 where
  pub absent : on list l.variable l.negated ≡ false
  pub not_falsified : on list l.variable (not l.negated) ≡ false
  pub form : Form
  pub among : F form
  pub stands : 0 < total (only l.variable l.negated) form.terms
  pub forced : total (opened list) form.terms < form.degree + total (only l.variable l.negated) form.terms

-- each literal added to the given ones was propagated
pub data Derivation (F : Form → Type 0) (given : List NumberedLiteral) : List NumberedLiteral → Type 0 where
  begin : Derivation F given given
  put : {list : List NumberedLiteral} (l : NumberedLiteral) → Derivation F given list → MayPropagate F list l → Derivation F given (l ∷ list)

-- the list holds a literal and its negation, or a form has negative slack
pub data HasConflict (F : Form → Type 0) (list : List NumberedLiteral) : Type 0 where
  opposed : (v : ℕ) → on list v true ≡ true → on list v false ≡ true → HasConflict F list
  broken : (f : Form) → F f → total (opened list) f.terms < f.degree → HasConflict F list

pub record MeetsConflict (F : Form → Type 0) (given : List NumberedLiteral) : Type 0 where
  pub list : List NumberedLiteral
  pub derived : Derivation F given list
  pub conflict : HasConflict F list

pub record IsCompletion (F : Form → Type 0) (given list : List NumberedLiteral) : Type 0 where
  pub derived : Derivation F given list
  pub closed : (l : NumberedLiteral) → MayPropagate F list l → ⊥

-- the set with one more form
abbrev pub With : (Form → Type 0) → Form → Form → Type 0
With F g f = F f ⊎ (f ≡ g)

abbrev pub IsRup : (Form → Type 0) → Form → Type 0
IsRup F r = (r.degree ≡ 0) ⊎ MeetsConflict (With F (negation_of r)) []

-- all forms of the set hold
abbrev pub HoldAll : (ℕ → Bool) → (Form → Type 0) → Type 0
HoldAll a F = (f : Form) → F f → Holds a f

-- the live forms
abbrev pub Live : List (Option Form) → Form → Type 0
Live live f = Contains live (Some f)
