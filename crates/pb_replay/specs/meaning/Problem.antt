-- An instance as forms: what its constraints load as, and what it means as written.
use Rattle.pb_normal.specs.meaning.{Constraints.AreFormsOf, Constraints.Fits, Constraints.constraint_names, Constraints.sides_in, Form.Form, Names.with_names}
use Rattle.pb_normal.specs.meaning.Written.{names_of, magnitude, true_sum, HoldsWritten}
use Rattle.{pb_opb.specs.declared.Instance.Instance, pb_sums.specs.declared.Linear.Linear, pb_sums.specs.declared.Term.Term}
use Rattle.pb_replay.specs.{declared.fault.Fault.TheVariants.Overflow, meaning.Answer.Answer, meaning.Answer.gives, meaning.Answer.need, meaning.Answer.some}
use Rattle.std.specs.Prelude.{ℕ, ◌≤◌, ℤ, Bool, List, [], ◌++◌, Option, Some, None, Contains}

-- the terms of the objective, or none if there is no objective
abbrev pub objective_of : Option (List Term) → List Term
objective_of None = []
objective_of (Some terms) = terms

-- the names of an instance, in the order of their first appearance
abbrev pub names_in : Instance → List (List ℕ)
names_in i = with_names [] (names_of (objective_of i.objective) ++ constraint_names i.constraints)

-- each constraint fits, and the magnitudes of the objective's coefficients are together within the limit
pub record FitsAll (limit : ℕ) (i : Instance) : Type 0 where
  pub constraints : (c : Linear) → Contains i.constraints c → Fits limit c
  pub objective : magnitude (objective_of i.objective) ≤ limit

-- what a replay stores of an instance: its forms, the objective's terms, and its names
pub record Problem : Type 0 where
  pub loaded : List Form
  pub objective : Option (List Term)
  pub names : List (List ℕ)

-- what a replay starts with
abbrev pub Opened : ℕ → Instance → Answer Problem
Opened limit i =
    need (FitsAll limit i) Overflow
    (some (AreFormsOf (names_in i) (sides_in i.constraints)) (λ forms.
    gives (record { loaded = forms; objective = i.objective; names = names_in i })))

-- each constraint of the instance holds as written
abbrev pub Solves : Instance → (List ℕ → Bool) → Type 0
Solves i a = (c : Linear) → Contains i.constraints c → HoldsWritten a c

-- the objective's value as written
abbrev pub written_value : Instance → (List ℕ → Bool) → ℤ
written_value i a = true_sum a (objective_of i.objective)
