-- The normal form of an instance: its constraints are the forms that they load as.
use Rattle.pb_normal.specs.declared.Side.{Side}
use Rattle.pb_normal.specs.meaning.{Constraints.AreFormsOf, Constraints.Fits, Constraints.sides_in, Form.Form, Written.linear_of}
use Rattle.{pb_opb.specs.declared.Instance.Instance, pb_replay.specs.meaning.Problem.names_in, pb_sums.specs.declared.Linear.Linear}
use Rattle.std.specs.Prelude.{◌≡◌, ℕ, List, [], map, Contains}

-- the constraints are the forms of these sides, written out with the names
abbrev pub AreLoaded : List (List ℕ) → List (Side × Linear) → List Linear → Type 0
AreLoaded names sides cs = (forms : List Form) × AreFormsOf names sides forms × (cs ≡ map (linear_of names) forms)

-- The instance w is the normal form of v. It has the variables and the objective of v, no tail and no comments. Its
-- constraints are the forms of the constraints of v, in order, written out with the names of v. So the names of the
-- terms of each appear in the order of their first appearance in v.
pub record IsNormalised (v w : Instance) : Type 0 where
  pub variables : w.variables ≡ v.variables
  pub objective : w.objective ≡ v.objective
  pub tail : w.tail ≡ []
  pub comments : w.comments ≡ []
  pub constraints : AreLoaded (names_in v) (sides_in v.constraints) w.constraints

-- some constraint does not fit: its numbers together exceed the limit
abbrev pub SomePasses : ℕ → List Linear → Type 0
SomePasses limit cs = (c : Linear) × Contains cs c × ¬ Fits limit c

-- some constraint of the instance does not fit
abbrev pub Overflows : ℕ → Instance → Type 0
Overflows limit v = SomePasses limit v.constraints
