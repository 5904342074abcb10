-- The literals that became true, each with what forced it: a derivation.
use Rattle.pb_normal.specs.declared.{entry.Entry.Entry, numbered.NumberedLiteral.NumberedLiteral, side.Side.TheVariants.AtLeast}
use Rattle.pb_normal.specs.meaning.{Form.Form, Form.total, Names.with_names, Rules.negation_of, Rules.on, Written.IsSideOf, Written.magnitude, Written.names_of}
use Rattle.{pb_propagate.specs.meaning.Propagation.MayPropagate, pb_propagate.specs.meaning.Propagation.opened, pb_sums.specs.declared.linear.Linear.Linear}
use Rattle.{pb_text.specs.declared.Limits.Limits, pb_text.specs.meaning.Limits.largest, pb_trace.specs.declared.reasons.Scene.Scene}
use Rattle.pb_trace.specs.declared.{piece.Derivation.Derivation, propagation.Base.Base, stored.Constraints.Constraints, stored.Stored.Stored}
use Rattle.pb_trace.specs.declared.piece.Reasons.{Reasons, TheVariants.Nothing, TheVariants.Plain, TheVariants.Shown}
use Rattle.pb_trace.specs.declared.propagation.{Forced.Forced, Reason.Reason, Reason.TheVariants.Given, Reason.TheVariants.Negation, Reason.TheVariants.Id}
use Rattle.pb_trace.specs.declared.propagation.{Over.Over, Over.TheVariants.Live, Over.TheVariants.All, Over.TheVariants.First, Propagation.Propagation}
use Rattle.std.specs.{Int.RustNames.unsigned_abs, Option.option_copied, Prelude.IsTrue, Prelude.Option, Prelude.Some, Prelude.None, Prelude.MatchOption}
use Rattle.std.specs.Prelude.{◌≡◌, ◌⊎◌, ℕ, ◌+◌, ◌-◌, ◌<◌, ◌≤◌, Bool, false, not, if◌then◌else◌, List, ◌∷◌, [], ◌++◌, length, map, set, get_or, slice_get}

abbrev pub literal_of : Forced → NumberedLiteral
literal_of f = record { variable = f.variable; negated = f.negated }

abbrev pub literals : List Forced → List NumberedLiteral
literals list = map literal_of list

-- whether a literal is true at a value of its variable
abbrev pub true_by : Option Bool → Bool → Bool
true_by None negated = false
true_by (Some value) negated = if negated then not value else value

-- whether values leave a literal true or open
abbrev pub free_by : List (Option Bool) → ℕ → Bool → Bool
free_by values v n = not (true_by (get_or values v None) (not n))

-- whether values falsify the literal of a term
abbrev pub falsified_by : List (Option Bool) → Entry → Bool
falsified_by values t = true_by (get_or values t.variable None) (not t.negated)

-- the values are those of the literals on the list
abbrev pub AreValues : List (Option Bool) → List Forced → Type 0
AreValues values list = (v : ℕ) (n : Bool) → on (literals list) v n ≡ true_by (get_or values v None) n

-- the stored constraint with this id propagates
abbrev pub Takes : Over → ℕ → Stored → Type 0
Takes Live id s = IsTrue s.is_live
Takes All id s = Unit {0}
Takes (First count) id s = id ≤ count

-- a literal was made true, or its variable is not open
abbrev pub Forces : Propagation → Forced → Propagation → Type 0
Forces old f new =
    (new ≡ old) ⊎ ((get_or old.values.items f.variable None ≡ None) × (f.variable < length old.values.items)
    × (new.values.items ≡ set old.values.items f.variable (Some (not f.negated)))
    × (new.forced.items ≡ old.forced.items ++ (f ∷ [])) × (new.conflict ≡ old.conflict))

-- What propagates: the negation of a goal, if there is one, and stored constraints.
module _ (negation : Option Form) (stored : List Stored) (over : Over) where
  -- the constraint that a reason names
  abbrev pub Names : Reason → Form → Type 0
  Names Given f = ⊥
  Names Negation f = negation ≡ Some f
  Names (Id id) f = (s : Stored) × (slice_get stored (id - 1) ≡ Some s) × (s.form ≡ f) × Takes over id s

  -- A literal became true after those of the list: the constraint that its reason names may propagate it, and has that
  -- slack there.
  pub record Follows (list : List Forced) (f : Forced) : Type 0 where
    pub may : MayPropagate (Names f.reason) (literals list) (literal_of f)
    pub slack : total (opened (literals list)) may.form.terms ≡ may.form.degree + f.slack

  -- each literal after the given ones follows from those before it
  pub data Derived (given : List Forced) : List Forced → Type 0 where
    Begin : Derived given given
    Then : (list : List Forced) (f : Forced) → Derived given list → Follows list f → Derived given (list ++ (f ∷ []))

  -- the slack of the constraint that a reason names is negative
  abbrev pub IsBroken : List Forced → Reason → Type 0
  IsBroken list reason = (f : Form) × Names reason f × (total (opened (literals list)) f.terms < f.degree)

  -- The literals of a propagation are a derivation, its values are theirs, and its conflict is one.
  pub record IsSound (given : List Forced) (p : Propagation) : Type 0 where
    pub derived : Derived given p.forced.items
    pub values : AreValues p.values.items p.forced.items
    pub conflict : MatchOption p.conflict (Unit {0}) (λ r. IsBroken p.forced.items r)

  abbrev pub Keeps : Propagation → Propagation → Type 0
  Keeps old new = (given : List Forced) → IsSound given old → IsSound given new

-- The slack of a constraint at the values of a propagation.
abbrev pub HasSlack : Propagation → Form → ℕ → Type 0
HasSlack p f slack = total (free_by p.values.items) f.terms ≡ f.degree + slack

-- whatever propagates, if a reason names this constraint there
abbrev pub KeepsNamed : Reason → Form → Propagation → Propagation → Type 0
KeepsNamed reason f old new =
    (negation : Option Form) (stored : List Stored) (over : Over) → Names negation stored over reason f
    → Keeps negation stored over old new

-- A propagation without literals is one of whatever propagates.
abbrev pub IsFresh : Propagation → Type 0
IsFresh p = (negation : Option Form) (stored : List Stored) (over : Over) → IsSound negation stored over [] p

-- the same for what propagates in the code
abbrev pub NamesOver : Base → Reason → Form → Type 0
NamesOver b = Names (option_copied b.negation) b.constraints.now b.over

abbrev pub IsSoundOver : Base → List Forced → Propagation → Type 0
IsSoundOver b = IsSound (option_copied b.negation) b.constraints.now b.over

abbrev pub KeepsOver : Base → Propagation → Propagation → Type 0
KeepsOver b = Keeps (option_copied b.negation) b.constraints.now b.over

-- The literals follow from a negation and the live stored constraints.
abbrev pub IsDerived : Form → List Stored → List Forced → Type 0
IsDerived negation stored list = Derived (Some negation) stored Live [] list

-- The literals follow from the negation of a goal, which is shown.
abbrev pub IsDerivation : Form → List Stored → Derivation → Type 0
IsDerivation goal stored d = (d.negation ≡ Some (negation_of goal)) × IsDerived (negation_of goal) stored d.forced.items

-- the form of a written goal, over these names and then those that it adds
abbrev pub IsGoal : List (List ℕ) → Linear → Form → Type 0
IsGoal names goal f = IsSideOf (with_names names (names_of goal.terms)) AtLeast goal f

-- the goal exceeds the limits, or always holds
abbrev pub IsNoGoal : Limits → List (List ℕ) → Linear → Type 0
IsNoGoal limits names goal =
    (largest limits < magnitude goal.terms + unsigned_abs goal.degree) ⊎ ((f : Form) × IsGoal names goal f × (f.degree ≡ 0))

abbrev pub IsDerivationOf : List (List ℕ) → Linear → List Stored → Derivation → Type 0
IsDerivationOf names goal stored d = (f : Form) × IsGoal names goal f × IsDerivation f stored d

-- What is known of a goal begins with such a derivation, unless there is none.
abbrev pub IsShown : Limits → List (List ℕ) → List Stored → Linear → Reasons → Type 0
IsShown limits names stored goal Nothing = IsNoGoal limits names goal
IsShown limits names stored goal (Plain lines) = ⊥
IsShown limits names stored goal (Shown before d after) = (before ≡ None) × IsDerivationOf names goal stored d

-- the same of the constraints in the code
abbrev pub IsDerivedBy : Form → Constraints → List Forced → Type 0
IsDerivedBy negation c = IsDerived negation c.forms.items

abbrev pub IsDerivationBy : Form → Constraints → Option Derivation → Type 0
IsDerivationBy goal c o = MatchOption o (goal.degree ≡ 0) (IsDerivation goal c.forms.items)

abbrev pub IsGoalIn : Scene → Linear → Option Form → Type 0
IsGoalIn s goal o = MatchOption o (IsNoGoal s.limits s.names goal) (IsGoal s.names goal)

abbrev pub IsDerivationIn : Scene → Linear → Option Derivation → Type 0
IsDerivationIn s goal o =
    MatchOption o (IsNoGoal s.limits s.names goal) (IsDerivationOf s.names goal s.constraints.now.forms.items)

abbrev pub IsShownIn : Scene → Linear → Reasons → Type 0
IsShownIn s goal = IsShown s.limits s.names s.constraints.now.forms.items goal
