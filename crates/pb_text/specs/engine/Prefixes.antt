-- What a feeder says of a prefix of a piece that it takes at once.
use Rattle.pb_text.specs.contract.Automaton.{IsState}
use Rattle.pb_text.specs.contract.Feeding.{StandsAt, spans_in, state_of, place_of, halt_of, is_complete}
use Rattle.pb_text.specs.declared.{feeder.Fed.Fed, feeder.Feeder.Feeder, machine.Machine.Ghosts, place.Spanned.Spanned}
use Rattle.std.specs.Prelude.{◌≡◌, ℕ, ◌+◌, ◌<◌, ◌≤◌, List, ◌++◌, length, take, false, Some, None}

-- It took these bytes of the piece, at most through the end of a statement, and did not stop.
pub record TakesPrefix {M E : Type 0} {g : Ghosts M E} (old : Feeder M E g) (piece : List ℕ) (fed : Fed E) (new : Feeder M E g) : Type 0 where
  pub bound : fed.used ≤ length piece
  pub stands : (longest : ℕ) (start : M) (input : List ℕ) (spans : List (Spanned E)) → StandsAt longest start input spans old
      → StandsAt longest start (input ++ take fed.used piece) (spans ++ spans_in fed.event) new
  pub offset : (place_of new).offset ≡ (place_of old).offset + fed.used
  pub some : (event : Spanned E) → fed.event ≡ Some event → 0 < fed.used
  pub past : (event : Spanned E) → fed.event ≡ Some event → event.past ≡ place_of new
  pub running : halt_of new ≡ None
  pub unfinished : fed.event ≡ None → is_complete new ≡ false
  pub state : IsState g.automaton (state_of new)
