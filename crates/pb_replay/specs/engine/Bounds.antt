-- The bounds of a conclusion, as the code tests them
use Rattle.pb_normal.specs.declared.{numbered.NumberedLiteral.NumberedLiteral, Side.Side, Side.TheVariants.AtLeast as least, Side.TheVariants.AtMost as most}
use Rattle.pb_normal.specs.meaning.{Form.Form, Rules.negation_of, Rules.IsContradiction, Rules.SumIsContradiction}
use Rattle.pb_proof.specs.declared.Bound.{Bound, TheVariants.Finite, TheVariants.Infinite}
use Rattle.pb_replay.specs.contract.ReplayModel.{IsBest, Returns, problem_of, state_of}
use Rattle.pb_replay.specs.declared.fault.Fault.{Fault, TheVariants.Memory, TheVariants.NoObjective, TheVariants.NoSolution, TheVariants.NotBound}
use Rattle.pb_replay.specs.{declared.state.Running.Running, meaning.Conclusions.IsShownBy, meaning.Conclusions.lower_bound, meaning.Conclusions.objective_with}
use Rattle.pb_replay.specs.meaning.{Problem.Problem, Replay.Logged, Replay.IsLive, Replay.Shown, Replay.normal_form, Replay.added}
use Rattle.pb_replay.specs.meaning.Answer.{Answer, gives, need, found}
use Rattle.{pb_sums.specs.declared.Term.Term, pb_text.specs.meaning.Limits.largest, pb_text.specs.meaning.Limits.top_of}
use Rattle.std.specs.Prelude.{◌≡◌, ℕ, ℤ, ◌≤ℤ◌, ◌⊎◌, pos, ◌-ℤ◌, ◌∷◌, ◌++◌, List, [], Contains, Option, Some, None, Result, Ok, Err}

-- the form of one side of the objective, compared with a degree
abbrev pub HasObjective : ℕ → List (List ℕ) → Option (List Term) → Side → ℤ → Answer Form
HasObjective limit names objective side degree =
    found (λ o. objective ≡ Some o) NoObjective (λ o. normal_form limit names side (objective_with o degree) gives)

-- the live form with this id; none if there is no id
abbrev pub IsNamed : List (Option Form) → Option ℤ → Option Form → Type 0
IsNamed live None f = f ≡ None
IsNamed live (Some i) f = (g : Form) × IsLive live i g × (f ≡ Some g)

-- the form is a contradiction, alone or with the negated goal
abbrev pub Refutes : Option Form → Form → Type 0
Refutes f goal = (g : Form) × (f ≡ Some g) × (IsContradiction g ⊎ SumIsContradiction g (negation_of goal))

-- the result for a lower bound, for each objective and whatever was logged
abbrev pub Lower : Running → Bound → Option ℤ → Result Unit Fault → Type 0
Lower r b id = Returns (λ result. (logged : List Logged) (o : List Term) → IsBest logged r.best → (problem_of r).objective ≡ Some o
    → lower_bound (largest r.limits) (state_of r logged) o b id (gives (tt {0})) result)

-- the bound is at most the best value, if there is one
abbrev pub IsBelow : Option ℤ → ℤ → Type 0
IsBelow None b = Unit {0}
IsBelow (Some z) b = b ≤ℤ z

-- whether the best value is at most the bound
abbrev pub IsReached : Option ℤ → ℤ → Answer (Unit {0})
IsReached None u r = r ≡ Err NoSolution
IsReached (Some z) u r = need (z ≤ℤ u) NotBound (gives (tt {0})) r

-- whether a goal is shown, and whether the objective is shown to be at least the bound
abbrev pub ShownAs : List (Option Form) → Option Form → Form → Result Unit Fault → Type 0
ShownAs live f goal (Ok u) = IsShownBy live f goal
ShownAs live f goal (Err e) = (e ≡ Memory) ⊎ ((e ≡ NotBound) × (IsShownBy live f goal → ⊥))

abbrev pub objective_at_least : Running → Option Form → ℤ → List Term → Answer (Unit {0})
objective_at_least r f b o = normal_form (largest r.limits) r.names least (objective_with o b) (λ g. need (IsShownBy r.constraints.forms f g) NotBound (gives (tt {0})))

abbrev pub ObjectiveShown : Running → Option Form → ℤ → Result Unit Fault → Type 0
ObjectiveShown r f b = Returns (λ result. (o : List Term) → (problem_of r).objective ≡ Some o → objective_at_least r f b o result)

-- whether a shown solution reaches the bound
abbrev pub ShownReaches : Problem → List NumberedLiteral → ℤ → Result Unit Fault → Type 0
ShownReaches v given u = Returns (found (Shown v given) NoSolution (λ g. need (g.value ≤ℤ u) NotBound (gives (tt {0}))))

-- whether a logged value is at most the bound
abbrev pub Reached : List Logged → ℤ → Answer (Unit {0})
Reached logged u =
    need ((g : Logged) × Contains logged g) NoSolution
    (need ((g : Logged) × Contains logged g × (g.value ≤ℤ u)) NotBound (gives (tt {0})))

-- an upper bound with its literals by number
abbrev pub upper_of : Problem → List Logged → Bound → Option (List NumberedLiteral) → Answer (Unit {0})
upper_of v logged Infinite given = gives (tt {0})
upper_of v logged (Finite u) (Some given) = found (Shown v given) NoSolution (λ g. need (g.value ≤ℤ u) NotBound (gives (tt {0})))
upper_of v logged (Finite u) None = Reached logged u

abbrev pub Upper : Running → Bound → Option (List NumberedLiteral) → Result Unit Fault → Type 0
Upper r b given = Returns (λ result. (logged : List Logged) → IsBest logged r.best → upper_of (problem_of r) logged b given result)

-- the result of requiring a lower value than a logged one, for each objective
abbrev pub Demands : Running → ℤ → Result Unit Fault → Running → Type 0
Demands old z (Ok _) new = (before : List Logged) (g : Logged) (o : List Term) → IsBest before old.best → g.value ≡ z → (problem_of old).objective ≡ Some o
    → IsBest (before ++ g ∷ []) new.best × normal_form (largest old.limits) old.names most (objective_with o (g.value -ℤ pos 1)) (added (top_of old.limits) (state_of old before) (before ++ g ∷ [])) (Ok (state_of new (before ++ g ∷ [])))
Demands old z (Err e) new = (e ≡ Memory) ⊎ ((before : List Logged) (g : Logged) (o : List Term) → g.value ≡ z → (problem_of old).objective ≡ Some o
    → normal_form (largest old.limits) old.names most (objective_with o (g.value -ℤ pos 1)) (added (top_of old.limits) (state_of old before) (before ++ g ∷ [])) (Err e))

-- the result for both bounds, for each objective and whatever was logged: the lower one comes first
abbrev pub Both : Running → Bound → Option ℤ → Bound → Option (List NumberedLiteral) → Result Unit Fault → Type 0
Both r lower id upper given (Ok u) = (logged : List Logged) (o : List Term) → IsBest logged r.best → (problem_of r).objective ≡ Some o
    → lower_bound (largest r.limits) (state_of r logged) o lower id (gives (tt {0})) (Ok (tt {0})) × upper_of (problem_of r) logged upper given (Ok (tt {0}))
Both r lower id upper given (Err e) = (e ≡ Memory) ⊎ ((logged : List Logged) (o : List Term) → IsBest logged r.best → (problem_of r).objective ≡ Some o
    → lower_bound (largest r.limits) (state_of r logged) o lower id (gives (tt {0})) (Err e)
    ⊎ (lower_bound (largest r.limits) (state_of r logged) o lower id (gives (tt {0})) (Ok (tt {0})) × upper_of (problem_of r) logged upper given (Err e)))
