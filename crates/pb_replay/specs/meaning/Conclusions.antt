-- Which conclusions are accepted
use Rattle.{pb_normal.specs.declared.Side.TheVariants.AtLeast as least, pb_proof.specs.declared.Bound.Bound, pb_proof.specs.declared.Bound.TheVariants.Infinite}
use Rattle.pb_normal.specs.meaning.{Form.Form, Rules.negation_of, Rules.IsContradiction, Rules.SumIsContradiction}
use Rattle.{pb_proof.specs.declared.Bound.TheVariants.Finite, pb_propagate.specs.meaning.Propagation.IsRup, pb_propagate.specs.meaning.Propagation.Live}
use Rattle.pb_proof.specs.declared.Conclusion.{Conclusion, TheVariants.NoClaim, TheVariants.Unsat, TheVariants.Sat, TheVariants.Bounds}
use Rattle.pb_replay.specs.declared.fault.Fault.TheVariants.{NoSuchId, NoObjective, NotContradiction, SolutionLogged, NoSolution, NotBound}
use Rattle.pb_replay.specs.{declared.verdict.Verdict.Verdict, meaning.Answer.Answer, meaning.Answer.gives, meaning.Answer.need, meaning.Answer.found}
use Rattle.pb_sums.specs.declared.{Linear.Linear, Literal.Literal, Relation.TheVariants.AtLeast, Term.Term}
use Rattle.std.specs.Prelude.{◌≡◌, ℕ, ℤ, ◌≤ℤ◌, List, [], Contains, Option, Some, None}
use Rattle.pb_replay.specs.meaning.{Problem.Problem, Replay.State, Replay.Logged, Replay.IsLive, Replay.Shown, Replay.normal_form, Replay.numbered}
use Rattle.pb_replay.specs.declared.verdict.Verdict.TheVariants as verdict

-- the verdict of a conclusion, without its justification
abbrev pub verdict_of : Conclusion → Verdict
verdict_of NoClaim = verdict.NoClaim
verdict_of (Unsat id) = verdict.Unsat
verdict_of (Sat shown) = verdict.Sat
verdict_of (Bounds lower id upper shown) = verdict.Bounds lower upper

-- the named constraint, or some live one, is a contradiction
abbrev pub contradicted : {A : Type 0} → List (Option Form) → Option ℤ → Answer A → Answer A
contradicted live None next = need ((f : Form) × Live live f × IsContradiction f) NotContradiction next
contradicted live (Some i) next = found (IsLive live i) (NoSuchId i) (λ f. need (IsContradiction f) NotContradiction next)

-- whether there is such a contradiction
abbrev pub has_contradiction : List (Option Form) → Option ℤ → Answer (Unit {0})
has_contradiction live id = contradicted live id (gives tt)

-- no solution was logged, and there is a contradiction
abbrev pub none_left : {A : Type 0} → State → Option ℤ → Answer A → Answer A
none_left s id next = need (s.logged ≡ []) SolutionLogged (contradicted s.live id next)

-- continues with the named constraint, if there is an id
abbrev pub named : {A : Type 0} → List (Option Form) → Option ℤ → (Option Form → Answer A) → Answer A
named live None next = next None
named live (Some i) next = found (IsLive live i) (NoSuchId i) (λ f. next (Some f))

-- The objective with a degree: at least the degree, and by its other side at most the degree.
abbrev pub objective_with : List Term → ℤ → Linear
objective_with terms degree = record { terms = terms; relation = AtLeast; degree = degree }

-- the four ways to show a lower bound, whose form is g
pub data IsShownBy (live : List (Option Form)) (id : Option Form) (g : Form) : Type 0 where
  trivial : g.degree ≡ 0 → IsShownBy live id g
  contradiction : (f : Form) → id ≡ Some f → IsContradiction f → IsShownBy live id g
  sum : (f : Form) → id ≡ Some f → SumIsContradiction f (negation_of g) → IsShownBy live id g
  propagated : IsRup (Live live) g → IsShownBy live id g

abbrev pub lower_bound : {A : Type 0} → ℕ → State → List Term → Bound → Option ℤ → Answer A → Answer A
lower_bound limit s o Infinite id next = none_left s id next
lower_bound limit s o (Finite b) id next =
    need ((g : Logged) → Contains s.logged g → b ≤ℤ g.value) NotBound
    (named s.live id (λ f.
    normal_form limit s.names least (objective_with o b) (λ g.
    need (IsShownBy s.live f g) NotBound next)))

abbrev pub upper_bound : {A : Type 0} → Problem → State → Bound → Option (List Literal) → Answer A → Answer A
upper_bound v s Infinite shown next = next
upper_bound v s (Finite u) (Some given) next =
    found (Shown v (numbered s.names given)) NoSolution (λ g. need (g.value ≤ℤ u) NotBound next)
upper_bound v s (Finite u) None next =
    need ((g : Logged) × Contains s.logged g) NoSolution
    (need ((g : Logged) × Contains s.logged g × (g.value ≤ℤ u)) NotBound next)

abbrev pub Concludes : ℕ → Problem → State → Conclusion → Answer State → Answer State
Concludes limit v s NoClaim next = next
Concludes limit v s (Unsat id) next = none_left s id next
Concludes limit v s (Sat (Some given)) next = found (Shown v (numbered s.names given)) NoSolution (λ g. next)
Concludes limit v s (Sat None) next = need ((g : Logged) × Contains s.logged g) NoSolution next
Concludes limit v s (Bounds lower id upper shown) next =
    found (λ o. v.objective ≡ Some o) NoObjective (λ o. lower_bound limit s o lower id (upper_bound v s upper shown next))
