-- Visits of one `rup`: those to entries of occurrence lists, to terms, and to watches and literals of clauses are counted.
use Rattle.pb_normal.specs.declared.{Side.TheVariants.AtLeast as least, numbered.NumberedLiteral.NumberedLiteral}
use Rattle.pb_normal.specs.meaning.{Form.Form, Names.with_names, Rules.negation_of, Written.names_of, Written.IsSideOf}
use Rattle.{pb_proof.specs.declared.Statement.Statement, pb_proof.specs.declared.Statement.TheVariants.Rup, pb_sums.specs.declared.Linear.Linear}
use Rattle.pb_propagate.specs.engine.engine.Live.{terms_in, one_in}
use Rattle.pb_propagate.specs.meaning.Propagation.{Derivation, HasConflict, IsCompletion, With, Live}
use Rattle.pb_replay.specs.declared.fault.Fault.{Fault, TheVariants.IdsSpent, TheVariants.NotImplied, TheVariants.Overflow, TheVariants.Order}
use Rattle.std.specs.Prelude.{◌≡◌, ℕ, ◌+◌, ◌*◌, ◌<◌, ◌≤◌, ◌⊎◌, List, [], length, sum_by, Option, Result, Ok, Err}

-- With the goal, at most three visits for each live term and one for each live form.
abbrev pub IsFew : List (Option Form) → Form → ℕ → Type 0
IsFew live goal visits = visits ≤ 3 * (sum_by terms_in live + length goal.terms) + (sum_by one_in live + 1)

-- at least one visit for each literal of some derivation that meets a conflict with the negated goal
abbrev pub CoversConflict : List (Option Form) → Form → ℕ → Type 0
CoversConflict live goal visits = 0 < goal.degree →
    (list : List NumberedLiteral) × Derivation (With (Live live) (negation_of goal)) [] list × HasConflict (With (Live live) (negation_of goal)) list × (length list ≤ visits)

-- at least one visit for each literal of the completion with the negated goal
abbrev pub CoversCompletion : List (Option Form) → Form → ℕ → Type 0
CoversCompletion live goal visits =
    (list : List NumberedLiteral) × IsCompletion (With (Live live) (negation_of goal)) [] list × (length list ≤ visits)

-- the visits of a `rup` whose names are numbered, whatever its result
pub record RupVisits (live : List (Option Form)) (names : List (List ℕ)) (linear : Linear) (result : Result Unit Fault) (visits : ℕ) : Type 0 where
  pub few : (goal : Form) → IsSideOf names least linear goal → IsFew live goal visits
  pub conflict : (result ≡ Ok tt) ⊎ (result ≡ Err IdsSpent) → (goal : Form) → IsSideOf names least linear goal → CoversConflict live goal visits
  pub completion : result ≡ Err NotImplied → (goal : Form) → IsSideOf names least linear goal → CoversCompletion live goal visits
  pub unasked : (goal : Form) → IsSideOf names least linear goal → goal.degree ≡ 0 → visits ≡ 0
  pub refused : (result ≡ Err Order) ⊎ (result ≡ Err Overflow) → visits ≡ 0

-- those of any statement: the others leave the number unchanged
abbrev pub StepVisits : List (Option Form) → List (List ℕ) → Statement → Result Unit Fault → ℕ → ℕ → Type 0
StepVisits live names (Rup linear) result before after = RupVisits live (with_names names (names_of linear.terms)) linear result after
StepVisits live names _ result before after = after ≡ before

-- the number from which visits are counted
abbrev pub counted_from : Statement → ℕ → ℕ
counted_from (Rup linear) n = 0
counted_from _ n = n
