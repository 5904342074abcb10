-- Short proofs that are accepted, and some that are rejected
use Rattle.{pb_opb.specs.declared.Instance.Instance, pb_replay.specs.declared.fault.Fault.Fault, pb_replay.specs.declared.verdict.Verdict.Verdict}
use Rattle.pb_proof.specs.declared.{PolWord.TheVariants.Id, PolWord.TheVariants.Add, Statement.Statement}
use Rattle.pb_proof.specs.declared.{Bound.TheVariants.Finite, Conclusion.TheVariants.Unsat, Conclusion.TheVariants.Sat, Conclusion.TheVariants.Bounds}
use Rattle.pb_proof.specs.declared.Statement.TheVariants.{Header, F, Pol, Rup, Soli, Solx, Output, Conclude, End}
use Rattle.pb_replay.specs.meaning.{Problem.Problem, Problem.Opened, Replay.State, Replay.first_state, Statements.Outcome, Statements.Accepts}
use Rattle.pb_sums.specs.declared.{Linear.Linear, Literal.Literal, Relation.TheVariants.AtLeast, Term.Term}
use Rattle.std.specs.Prelude.{◌≡◌, ℕ, pos, negsuc, Bool, false, true, List, [], ◌∷◌, ◌++◌, Option, Some, None, Ok, Err}

abbrev pub name_x : List ℕ
name_x = 120 ∷ 49 ∷ []

abbrev pub name_y : List ℕ
name_y = 120 ∷ 50 ∷ []

abbrev pub literal_on : List ℕ → Bool → Literal
literal_on name negated = record { name = name; negated = negated }

abbrev pub term_on : List ℕ → Bool → Term
term_on name negated = record { coefficient = pos 1; literal = literal_on name negated }

abbrev pub at_least_one : List Term → Linear
at_least_one terms = record { terms = terms; relation = AtLeast; degree = pos 1 }

-- `+1 x1 >= 1` or `+1 ~x1 >= 1`
abbrev pub unit_on : Bool → Linear
unit_on negated = at_least_one (term_on name_x negated ∷ [])

-- `+1 x1 +1 x2`
abbrev pub both_terms : List Term
both_terms = term_on name_x false ∷ term_on name_y false ∷ []

-- `+1 x1 >= 1` and `+1 ~x1 >= 1`
abbrev pub opposed : Instance
opposed = record { variables = 1; tail = []; objective = None; comments = []; constraints = unit_on false ∷ unit_on true ∷ [] }

-- `+1 x1 +1 x2 >= 1`, with an objective or none
abbrev pub either : Option (List Term) → Instance
either objective = record { variables = 2; tail = []; objective = objective; comments = []; constraints = at_least_one both_terms ∷ [] }

-- `f 2`, `pol 1 2 +`, `output NONE`, `conclusion UNSAT : 3`
abbrev pub short_proof : List Statement
short_proof = Header ∷ F (Some 2) ∷ Pol (Id (pos 1) ∷ Id (pos 2) ∷ Add ∷ []) ∷ Output ∷ Conclude (Unsat (Some (pos 3))) ∷ End ∷ []

-- the same by propagation: `rup >= 1 ;` and `conclusion UNSAT : -1`
abbrev pub other_proof : List Statement
other_proof = Header ∷ F None ∷ Rup (at_least_one []) ∷ Output ∷ Conclude (Unsat (Some (negsuc 0))) ∷ End ∷ []

-- a literal on each of x1 and x2
abbrev pub both_on : Bool → Bool → List Literal
both_on x y = literal_on name_x x ∷ literal_on name_y y ∷ []

-- every solution is logged, so that a contradiction is implied: `f 1`, `solx x1 x2`, `solx x1 ~x2`, `solx ~x1 x2`,
-- `rup +1 x1 >= 1 ;`, `rup >= 1 ;`, `output NONE`; and then `conclusion SAT`
abbrev pub all_logged : List Statement
all_logged =
    Header ∷ F (Some 1) ∷ Solx (both_on false false) ∷ Solx (both_on false true) ∷ Solx (both_on true false)
    ∷ Rup (unit_on false) ∷ Rup (at_least_one []) ∷ Output ∷ []

abbrev pub logged_proof : List Statement
logged_proof = all_logged ++ (Conclude (Sat None) ∷ End ∷ [])

-- `f`, `output NONE`, `conclusion SAT : x1 x2`
abbrev pub shown_proof : List Statement
shown_proof = Header ∷ F None ∷ Output ∷ Conclude (Sat (Some (both_on false false))) ∷ End ∷ []

-- a best solution, and a contradiction with the constraint that requires a better one: `f 1`, `soli x1 ~x2`, `pol 1 2 +`,
-- `output NONE`; and then `conclusion BOUNDS 1 1`
abbrev pub best_logged : List Statement
best_logged = Header ∷ F (Some 1) ∷ Soli (both_on false true) ∷ Pol (Id (pos 1) ∷ Id (pos 2) ∷ Add ∷ []) ∷ Output ∷ []

abbrev pub bounds_of : ℕ → ℕ → Statement
bounds_of lower upper = Conclude (Bounds (Finite (pos lower)) None (Finite (pos upper)) None)

abbrev pub best_proof : List Statement
best_proof = best_logged ++ (bounds_of 1 1 ∷ End ∷ [])

-- The statements are accepted in order, and this is what they have concluded.
abbrev pub Verifies : Instance → List Statement → Verdict → Type 0
Verifies i sts w = (v : Problem) × (t : State) × Opened 127 i (Ok v) × Accepts 127 9 v (first_state v) sts t × (t.concluded ≡ Some w)

-- The statements are accepted, and the one after them is rejected.
abbrev pub Refuses : Instance → List Statement → Statement → Fault → Type 0
Refuses i sts st e = (v : Problem) × (t : State) × Opened 127 i (Ok v) × Accepts 127 9 v (first_state v) sts t × Outcome 127 9 v t st (Err e)
