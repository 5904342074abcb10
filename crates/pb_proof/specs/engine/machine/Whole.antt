-- Whole steps of a proof at the start of a text.
use Rattle.pb_proof.specs.declared.{machine.phase.Stage.TheVariants.Steps, statement.Statement.Statement}
use Rattle.pb_lines.specs.contract.Grammar.{Grammar}
use Rattle.pb_lines.specs.engine.WordsWhole.{IsLine}
use Rattle.pb_proof.specs.engine.machine.State.{idle, proofs, IsInOrder}
use Rattle.pb_text.specs.contract.Automaton.{TakesStatement}
use Rattle.std.specs.Prelude.{◌≡◌, ◌<◌, ℕ, List, ◌++◌, Option, Some, None, option_map, get_or, length, take}

-- The bytes before the one at this index are this word and the rest of a line of this event, and that byte is the line feed.
abbrev pub IsLineAfter : {S E : Type 0} → (ℕ → ℕ → Grammar S E) → ℕ → ℕ → List ℕ → List ℕ → Option (ℕ × E) → Type 0
IsLineAfter grammar limit top word text None = Unit {0}
IsLineAfter grammar limit top word text (Some (last, e)) =
    (last < length text) × (get_or text last 0 ≡ 10) × (rest : List ℕ) × (take last text ≡ word ++ rest) × IsLine grammar limit top rest e

-- Before a step, the bytes through the one at this index are a step of this value, or there is no result.
abbrev pub IsStepAt : {E : Type 0} → ℕ → ℕ → (E → Statement) → List ℕ → Option (ℕ × E) → Type 0
IsStepAt limit top step text r = IsInOrder (idle limit top Steps) → TakesStatement proofs (idle limit top Steps) text (option_map (λ x. (x.0, step x.1)) r) (idle limit top Steps)
