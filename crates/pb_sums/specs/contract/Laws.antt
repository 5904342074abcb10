-- The laws of the grammar and of the machine.
use Rattle.pb_sums.specs.contract.Canonical.{AreTerms, IsLinear, sum_bytes, sum_text, linear_bytes, linear_text}
use Rattle.pb_sums.specs.declared.{linear.Linear.Linear, linear.SumEvent.SumEvent, linear.Term.Term, sum_kind.Part.Part, sum_kind.Spaces.Spaces}
use Rattle.pb_sums.specs.engine.{Machine.finished, State.SumState, State.sums, State.first, State.last, State.with_work, State.IsInOrder}
use Rattle.pb_sums.specs.meaning.Sums.{Spells, SpellsSum, SpellsLinear}
use Rattle.pb_text.specs.{contract.Automaton.ReadsStatement, contract.Automaton.IsState, meaning.Spelling.Letter, meaning.Spelling.bytes}
use Rattle.std.specs.Prelude.{◌≡◌, ℕ, ◌≤◌, ◌<◌, ◌^◌, List, [], ◌++◌, ◌↔◌, false}

-- A new machine reads exactly the grammar, and then it has ended.
abbrev pub ReadsGrammar : Type 0
ReadsGrammar = (spaces : Spaces) (part : Part) (limit : ℕ) (text : List Letter) (event : SumEvent) (after : SumState) →
    ReadsStatement sums (first spaces part limit) text event after ↔ (Spells spaces limit part event text × (after ≡ last spaces part limit))

-- After an event a machine has ended, whatever state it was in.
abbrev pub EndsLast : Type 0
EndsLast = (state after : SumState) (text : List Letter) (event : SumEvent) → ReadsStatement sums state text event after → after ≡ with_work state finished

-- Each state that has not ended reads a text.
abbrev pub EachReads : Type 0
EachReads = (state : SumState) → sums.done state ≡ false → (text : List Letter) × (event : SumEvent) × (after : SumState) × ReadsStatement sums state text event after

-- A state with `IsInOrder` is a state of a machine.
abbrev pub EachIsState : Type 0
EachIsState = (state : SumState) → IsInOrder state.limit state.work → IsState sums state

-- A text has at most one value.
abbrev pub OneValue : Type 0
OneValue = (spaces : Spaces) (part : Part) (limit : ℕ) (text : List Letter) (e f : SumEvent) →
    Spells spaces limit part e text → Spells spaces limit part f text → e ≡ f

-- No text of a value is a proper prefix of another.
abbrev pub PrefixFree : Type 0
PrefixFree = (spaces : Spaces) (part : Part) (limit : ℕ) (text more : List Letter) (e f : SumEvent) →
    Spells spaces limit part e text → Spells spaces limit part f (text ++ more) → more ≡ []

-- A text of a value remains one under larger limits.
abbrev pub LargerLimits : Type 0
LargerLimits = (spaces : Spaces) (part : Part) (small large : ℕ) (text : List Letter) (event : SumEvent) → small ≤ large →
    Spells spaces small part event text → Spells spaces large part event text

-- The canonical text of a value is a text of that value.
abbrev pub CanonicalLinear : Type 0
CanonicalLinear = (spaces : Spaces) (limit : ℕ) (c : Linear) → limit < 2 ^ 127 → IsLinear limit c → SpellsLinear spaces limit c (linear_text c)

abbrev pub CanonicalSum : Type 0
CanonicalSum = (spaces : Spaces) (limit : ℕ) (xs : List Term) → limit < 2 ^ 127 → AreTerms limit xs → SpellsSum spaces limit xs (sum_text xs)

-- Its letters are the bytes that are written.
abbrev pub CanonicalBytes : Type 0
CanonicalBytes = ((c : Linear) → bytes (linear_text c) ≡ linear_bytes c) × ((xs : List Term) → bytes (sum_text xs) ≡ sum_bytes xs)
