-- What is stored of the statements of an instance that come one by one.
use Rattle.pb_normal.specs.meaning.{Constraints.AreFormsOf, Constraints.Fits, Constraints.constraint_names, Constraints.sides_in, Names.HasNames, Names.with_names}
use Rattle.pb_opb.specs.{declared.OpbEvent.OpbEvent, meaning.Values.constraints_in, meaning.Values.last_or, meaning.Values.objectives_in}
use Rattle.pb_replay.specs.declared.{fault.Fault.Fault, fault.Fault.TheVariants.Memory, fault.Fault.TheVariants.Overflow, loading.forms.FormsSoFar.FormsSoFar}
use Rattle.{pb_replay.specs.contract.Loading.names_on, pb_sums.specs.declared.Linear.Linear, pb_sums.specs.declared.Term.Term}
use Rattle.{pb_text.specs.meaning.Limits.largest}
use Rattle.std.specs.Prelude.{◌≡◌, ℕ, List, [], Contains, Option, None, Result, Ok, Err}

-- each constraint fits the limit
abbrev pub AllFit : ℕ → List Linear → Type 0
AllFit limit cs = (c : Linear) → Contains cs c → Fits limit c

-- the forms of constraints, over the names that have appeared
pub record AreMade (named : List (List ℕ)) (cs : List Linear) (f : FormsSoFar) : Type 0 where
  pub names : f.names ≡ with_names [] named
  pub has : HasNames f.names (constraint_names cs)
  pub loaded : AreFormsOf f.names (sides_in cs) f.forms.items
  pub fit : AllFit (largest f.limits) cs

-- what is stored of constraints: their forms; or all fit and memory ran out; or one does not fit
abbrev pub MadeAs : Result Unit Fault → List (List ℕ) → List Linear → FormsSoFar → Type 0
MadeAs (Ok _) named cs f = AreMade named cs f
MadeAs (Err Memory) named cs f = AllFit (largest f.limits) cs
MadeAs (Err Overflow) named cs f = AllFit (largest f.limits) cs → ⊥
MadeAs (Err _) named cs f = ⊥

abbrev pub Made : List (List ℕ) → List Linear → FormsSoFar → Type 0
Made named cs f = MadeAs f.made named cs f

-- what is stored of statements
pub record IsStored (events : List OpbEvent) (objective : Option (List Term)) (f : FormsSoFar) : Type 0 where
  pub objective_is : objective ≡ last_or None (objectives_in events)
  pub made : Made (names_on events) (constraints_in events) f
