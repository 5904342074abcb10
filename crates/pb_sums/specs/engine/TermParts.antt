-- Parts of a term at the start of a text, and what a machine does with them, whatever it reads.
use Rattle.pb_sums.specs.declared.{linear.Linear.Linear, linear.Literal.Literal, linear.Relation.Relation, linear.Term.Term, phase.Phase.Phase}
use Rattle.{pb_sums.specs.declared.sum_kind.Part.Part, pb_sums.specs.declared.sum_kind.Spaces.Spaces, pb_text.specs.contract.Automaton.Runs, pb_text.specs.contract.Automaton.End}
use Rattle.pb_sums.specs.engine.{Prefix.role, Prefix.after_number, State.SumState, State.sums, State.first, State.last}
use Rattle.std.specs.Prelude.{◌≡◌, ℕ, ℤ, Bool, true, false, List, [], ◌∷◌, ◌++◌, None, Some}
use Rattle.pb_text.specs.meaning.Numbers.{signed}
use Rattle.pb_sums.specs.declared.linear.SumEvent.{SumEvent}

-- the states in which a term may begin, or the digits of its coefficient
abbrev pub begins_term : Phase → Bool
begins_term Phase.Start = true
begins_term (Phase.Signed None negative) = true
begins_term Phase.Between = true
begins_term _ = false

-- `~`, or nothing
abbrev pub IsTilde : Bool → List ℕ → Type 0
IsTilde false text = text ≡ []
IsTilde true text = text ≡ 126 ∷ []

abbrev pub standing : Spaces → Part → ℕ → List Term → List ℕ → Phase → SumState
standing spaces part limit xs name p = record { spaces = spaces; part = part; limit = limit; work = record { terms = xs; name = name; phase = p } }

-- a number and a space after it, from this state
abbrev pub IsSpacedNumber : ℕ → Phase → List ℕ → ℤ → Type 0
IsSpacedNumber limit p text z = (spaces : Spaces) (part : Part) (xs : List Term) →
    Runs sums (standing spaces part limit xs [] p) text (standing spaces part limit xs [] (after_number (role p) z))

-- a literal after a coefficient
abbrev pub IsLiteral : List ℕ → Literal → Type 0
IsLiteral text l = (spaces : Spaces) (part : Part) (limit : ℕ) (xs : List Term) (z : ℤ) →
    Runs sums (standing spaces part limit xs [] (Phase.Gap z)) text (standing spaces part limit xs l.name (Phase.More z l.negated))

-- a literal after a coefficient, and a space after it
abbrev pub IsSpacedLiteral : List ℕ → Literal → Type 0
IsSpacedLiteral text l = (spaces : Spaces) (part : Part) (limit : ℕ) (xs : List Term) (z : ℤ) →
    Runs sums (standing spaces part limit xs [] (Phase.Gap z)) text
    (standing spaces part limit (xs ++ (record { coefficient = z; literal = l }) ∷ []) [] Phase.Between)

-- a term and a space after it, from this state
abbrev pub IsSpacedTerm : ℕ → Phase → List ℕ → Term → Type 0
IsSpacedTerm limit p text x = (spaces : Spaces) (part : Part) (xs : List Term) →
    Runs sums (standing spaces part limit xs [] p) text (standing spaces part limit (xs ++ x ∷ []) [] Phase.Between)

-- terms, each with a space after it, from the beginning to this state
abbrev pub AreSpacedTerms : ℕ → List ℕ → List Term → Phase → Type 0
AreSpacedTerms limit text xs p = (spaces : Spaces) (part : Part) →
    Runs sums (standing spaces part limit [] [] Phase.Start) text (standing spaces part limit xs [] p)

-- a degree after a relation and a space
abbrev pub IsDegree : ℕ → Relation → List ℕ → ℤ → Type 0
IsDegree limit r text z = (spaces : Spaces) (part : Part) (xs : List Term) → (negative : Bool) × (v : ℕ) × (z ≡ signed negative v)
    × Runs sums (standing spaces part limit xs [] (Phase.Relation r)) text (standing spaces part limit xs [] (Phase.Digits (Some r) negative v))

-- From this state, a machine takes these bytes, and then a `;` ends this linear text.
abbrev pub EndsLinear : Spaces → Part → ℕ → SumState → List ℕ → Linear → Type 0
EndsLinear spaces part limit s text c = (mid : SumState) × Runs sums s text mid × (sums.step mid 59 ≡ End (SumEvent.Linear c) (last spaces part limit))

-- a relation and a degree, after terms and space, and then a `;`
abbrev pub LeadsToDegree : ℕ → Part → List ℕ → Relation → ℤ → Type 0
LeadsToDegree limit part text r z = (spaces : Spaces) (xs : List Term) →
    EndsLinear spaces part limit (standing spaces part limit xs [] Phase.Between) text (record { terms = xs; relation = r; degree = z })

-- a linear text, from the first state
abbrev pub LeadsToLinear : ℕ → Part → List ℕ → Linear → Type 0
LeadsToLinear limit part text c = (spaces : Spaces) → EndsLinear spaces part limit (first spaces part limit) text c
