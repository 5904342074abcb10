-- What a replay stores, as a problem and a state
use Rattle.pb_normal.specs.meaning.{Form.Form, Names.with_names, Written.magnitude}
use Rattle.{pb_opb.specs.declared.Instance.Instance, pb_propagate.specs.meaning.Propagation.Live}
use Rattle.pb_proof.specs.declared.{Stage.Stage, Stage.TheVariants.Complete, Statement.Statement}
use Rattle.pb_replay.specs.declared.{verdict.Verdict.Verdict, fault.Fault.Fault, fault.Fault.TheVariants.Memory, fault.Fault.TheVariants.NotTotal}
use Rattle.pb_replay.specs.meaning.{Answer.Answer, Statements.Does, Statements.Outcome, Statements.PassesFirst, Statements.mentioned}
use Rattle.pb_replay.specs.{declared.state.Running.Running, meaning.Problem.Problem, meaning.Problem.Opened, meaning.Problem.objective_of}
use Rattle.pb_replay.specs.meaning.{Meaning.IsNamePrefix, Meaning.IsProblem, Meaning.IsSound, Replay.State, Replay.Logged, Replay.added, Replay.first_state}
use Rattle.pb_text.specs.{declared.Limits.Limits, meaning.Limits.largest, meaning.Limits.top_of}
use Rattle.std.specs.Prelude.{◌≡◌, ℕ, ℤ, zero, suc, ◌<◌, ◌≤◌, ◌≤ℤ◌, ◌⊎◌, false, if◌then◌else◌, is_some, List, [], ◌∷◌, ◌++◌, All, Contains, length, take}
use Rattle.std.specs.Prelude.{get_or, Option, Some, None, option_map, Result, Ok, Err, OnOk}

-- the least value of those that were logged
abbrev pub IsBest : List Logged → Option ℤ → Type 0
IsBest logged None = logged ≡ []
IsBest logged (Some b) = ((g : Logged) × Contains logged g × (g.value ≡ b)) × ((g : Logged) → Contains logged g → b ≤ℤ g.value)

-- the form's variables are below this number
abbrev pub IsInside : ℕ → Form → Type 0
IsInside n f = All (λ t. t.variable < n) f.terms

abbrev pub problem_of : Running → Problem
problem_of r = record { loaded = r.constraints.loaded; objective = option_map (λ c. c.terms) r.objective; names = take r.own r.names }

-- the state in which these solutions were logged
abbrev pub state_of : Running → List Logged → State
state_of r logged = record { live = r.constraints.forms; names = r.names; logged = logged; next = r.next; concluded = r.concluded }

-- the state after a statement's names have appeared
abbrev pub with_mentioned : State → Statement → State
with_mentioned s st = record s { names = with_names s.names (mentioned st) }

-- the result of an answer; each fault may be out of memory
abbrev pub Returns : {A : Type 0} → Answer A → Result A Fault → Type 0
Returns answer (Ok x) = answer (Ok x)
Returns answer (Err e) = (e ≡ Memory) ⊎ answer (Err e)

-- the same for the value of a solution
abbrev pub ReturnsValue : Answer Logged → Result ℤ Fault → Type 0
ReturnsValue answer (Ok z) = (g : Logged) × answer (Ok g) × (g.value ≡ z)
ReturnsValue answer (Err e) = (e ≡ Memory) ⊎ answer (Err e)

-- the same for what changes the state, whatever was logged with this best value
abbrev pub Carries : Running → (State → Answer State) → Result Unit Fault → Running → Type 0
Carries old answer (Ok _) new = (logged : List Logged) → IsBest logged old.best
    → (more : List Logged) × IsBest more new.best × answer (state_of old logged) (Ok (state_of new more))
Carries old answer (Err e) new = (e ≡ Memory) ⊎ ((logged : List Logged) → IsBest logged old.best → answer (state_of old logged) (Err e))

-- what a statement does under the limits of a replay, if it may come, and of any statement
abbrev pub does_in : Running → Statement → State → Answer State
does_in r st s = Does (largest r.limits) (top_of r.limits) (problem_of r) s st

abbrev pub outcome_in : Running → Statement → State → Answer State
outcome_in r st s = Outcome (largest r.limits) (top_of r.limits) (problem_of r) s st

-- the result of any statement, of one that may come, and of one whose names have appeared already
abbrev pub Comes : Running → Statement → Result Unit Fault → Running → Type 0
Comes old st = Carries old (outcome_in old st)

abbrev pub Goes : Running → Statement → Result Unit Fault → Running → Type 0
Goes old st = Carries old (λ s. does_in old st (with_mentioned s st))

abbrev pub GoesAt : Running → Statement → Result Unit Fault → Running → Type 0
GoesAt old st = Carries old (does_in old st)

-- the result of adding one more form
abbrev pub Adding : Running → Form → Result Unit Fault → Running → Type 0
Adding old form (Ok _) new = (before after : List Logged) → added (top_of old.limits) (state_of old before) after form (Ok (state_of new after))
Adding old form (Err e) new = (e ≡ Memory) ⊎ ((before after : List Logged) → added (top_of old.limits) (state_of old before) after form (Err e))

-- the same for one more form, once a solution with this value was logged
abbrev pub Logs : Running → ℤ → Form → Result Unit Fault → Running → Type 0
Logs old z form (Ok _) new = (before : List Logged) (g : Logged) → IsBest before old.best → g.value ≡ z
    → IsBest (before ++ g ∷ []) new.best × added (top_of old.limits) (state_of old before) (before ++ g ∷ []) form (Ok (state_of new (before ++ g ∷ [])))
Logs old z form (Err e) new = (e ≡ Memory) ⊎ ((before : List Logged) (g : Logged) → added (top_of old.limits) (state_of old before) (before ++ g ∷ []) form (Err e))

-- what stays the same, whatever the result
pub record Keeps (old new : Running) : Type 0 where
  pub limits : new.limits ≡ old.limits
  pub own : new.own ≡ old.own
  pub loaded : new.constraints.loaded ≡ old.constraints.loaded
  pub objective : option_map (λ c. c.terms) new.objective ≡ option_map (λ c. c.terms) old.objective
  pub names : IsNamePrefix old.names new.names

-- the statement passes what is tested of it first
abbrev pub Passes : Running → Statement → Type 0
Passes r st = PassesFirst (largest r.limits) (top_of r.limits) (problem_of r) st

-- no allocation has failed, and there is a variable for each name, within which every live form lies
pub record IsLinked (r : Running) : Type 0 where
  pub ready : r.constraints.spent ≡ false
  pub variables : r.constraints.variables ≡ length r.names
  pub inside : (f : Form) → Live r.constraints.forms f → IsInside (length r.names) f

-- what a call preserves: the links to the names unless there is a fault, what is kept, and the number of visits
pub record Preserves {A : Type 0} (old : Running) (result : Result A Fault) (new : Running) : Type 0 where
  pub linked : OnOk result (IsLinked new)
  pub kept : Keeps old new
  pub visits : new.visits ≡ old.visits

-- what is true of the instance in every state
pub record IsProper (r : Running) : Type 0 where
  pub own : r.own ≤ length r.names
  pub problem : IsProblem (problem_of r)
  pub fits : magnitude (objective_of (problem_of r).objective) ≤ largest r.limits
  pub loaded : (f : Form) → Contains r.constraints.loaded f → IsInside r.own f

-- what is true before each statement
pub record IsReady (r : Running) : Type 0 where
  pub proper : IsProper r
  pub linked : IsLinked r
  pub sound : (logged : List Logged) × IsBest logged r.best × IsSound (problem_of r) (state_of r logged)

-- what is true between statements: all of this until there is a fault; if a fault reports a name, the name exists
pub record IsKept (r : Running) (fault : Option Fault) : Type 0 where
  pub ready : fault ≡ None → IsReady r
  pub reported : (n : ℕ) → fault ≡ Some (NotTotal n) → n < length r.names

-- other names have appeared, and nothing else has changed
pub record HasNamed (others : List (List ℕ)) (old new : Running) : Type 0 where
  pub names : new.names ≡ with_names old.names others
  pub forms : new.constraints.forms ≡ old.constraints.forms
  pub best : new.best ≡ old.best
  pub next : new.next ≡ old.next
  pub concluded : new.concluded ≡ old.concluded

-- the lesser of the best value, if there is one, and another
abbrev pub IsBetter : Option ℤ → ℤ → ℤ → Type 0
IsBetter None z r = r ≡ z
IsBetter (Some b) z r = (r ≤ℤ b) × (r ≤ℤ z) × ((r ≡ b) ⊎ (r ≡ z))

-- before the first statement
pub record IsFirst (given : Limits) (r : Running) : Type 0 where
  pub limits : r.limits ≡ given
  pub own : r.own ≡ length r.names
  pub best : r.best ≡ None
  pub state : state_of r [] ≡ first_state (problem_of r)
  pub visits : r.visits ≡ 0

-- the instance as forms
pub record IsLoaded (given : Limits) (i : Instance) (r : Running) : Type 0 where
  pub opened : Opened (largest given) i (Ok (problem_of r))
  pub first : IsFirst given r
  pub fits : magnitude (objective_of (problem_of r).objective) ≤ largest given

-- the instance opened as this replay, with a variable for each name
pub record IsOpened (given : Limits) (i : Instance) (r : Running) : Type 0 where
  pub loaded : IsLoaded given i r
  pub ready : r.constraints.spent ≡ false
  pub variables : r.constraints.variables ≡ length r.names

-- what callers see of a replay; after a fault it is spent
pub record Replaying : Type 0 where
  pub limits : Limits
  pub problem : Problem
  pub live : List (Option Form)
  pub names : List (List ℕ)
  pub best : Option ℤ
  pub next : Stage
  pub concluded : Option Verdict
  pub fault : Option Fault
  pub visits : ℕ

-- The state that it represents. Of the logged solutions only the best value is seen.
pub record StandsFor (r : Replaying) (s : State) : Type 0 where
  pub live : s.live ≡ r.live
  pub names : s.names ≡ r.names
  pub logged : IsBest s.logged r.best
  pub next : s.next ≡ r.next
  pub concluded : s.concluded ≡ r.concluded

-- the verdict, once the proof has ended
abbrev pub verdict_at : Stage → Option Verdict → Option Verdict
verdict_at Complete concluded = concluded
verdict_at _ concluded = None

abbrev pub verdict_in : Replaying → Option Verdict
verdict_in r = if is_some r.fault then None else verdict_at r.next r.concluded

-- the live constraint with this id
abbrev pub constraint_in : List (Option Form) → ℕ → Option Form
constraint_in live zero = None
constraint_in live (suc n) = get_or live n None

-- The result of a step of a replay that is not spent, in every state that it represents. Each fault may be out of memory.
abbrev pub StepsAs : Replaying → Statement → Result Unit Fault → Replaying → Type 0
StepsAs old st (Ok _) new = ((s : State) → StandsFor old s → (t : State) × StandsFor new t × Outcome (largest old.limits) (top_of old.limits) old.problem s st (Ok t)) × (new.fault ≡ None)
StepsAs old st (Err e) new = ((e ≡ Memory) ⊎ ((s : State) → StandsFor old s → Outcome (largest old.limits) (top_of old.limits) old.problem s st (Err e))) × (new.fault ≡ Some e)
