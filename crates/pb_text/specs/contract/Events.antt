-- What the events of a source yield in order.
use Rattle.pb_text.specs.contract.Feeding.{StandsAt, WantsMemory, stop_of, place_of, halt_of, is_complete}
use Rattle.pb_text.specs.declared.{events.Events.Events, feeder.Feeder.Feeder, machine.Machine.Ghosts, place.Spanned.Spanned, place.Stop.Stop}
use Rattle.pb_text.specs.meaning.{Pulling.Pulls, Pulling.faults_after, PullsInARow.HasPulled, PullsInARow.PullsOn, Reading.byte_limit, Stopping.IsShown}
use Rattle.std.specs.{Iterator.Count, Iterator.at_most, Option.option_transpose}
use Rattle.std.specs.Prelude.{◌≡◌, ◌<◌, ℕ, ◌+◌, ◌-◌, List, Bool, true, Option, Some, None, Result, Ok, IfErr}

abbrev pub source_of : {S M E : Type 0} {g : Ghosts M E} → Events S M E g → S
source_of e = e.source.now

abbrev pub feeder_of : {S M E : Type 0} {g : Ghosts M E} → Events S M E g → Feeder M E g
feeder_of e = e.feeder

-- After a stop nothing is left. Before it, at most one event for each byte up to the limit, and a stop.
abbrev pub most_before : ℕ → Option Stop → ℕ
most_before offset (Some stop) = 0
most_before offset None = byte_limit - offset + 1

abbrev pub most_left : {S M E : Type 0} {g : Ghosts M E} → Events S M E g → Count
most_left e = at_most (most_before (place_of e.feeder).offset (halt_of e.feeder))

-- neither the source nor the feeder has changed
abbrev pub IsUnmoved : {S M E : Type 0} {g : Ghosts M E} → Events S M E g → Events S M E g → Type 0
IsUnmoved old new = (feeder_of new ≡ feeder_of old) × (source_of new ≡ source_of old)

-- A call yielded this item, or none. It yields none after a stop and after the last event, and otherwise what a pull
-- returns, with all clauses of `pull`.
pub record Gives {S M E : Type 0} {g : Ghosts M E} (left : S → Option (List ℕ)) (shown : S → Option ℕ) (ended : S → Bool) (history : S → List ℕ) (faults : S → ℕ) (old : Events S M E g) (item : Option (Result (Spanned E) Stop)) (new : Events S M E g) : Type 0 where
  pub stopped : (stop : Stop) → halt_of (feeder_of old) ≡ Some stop → (item ≡ None) × IsUnmoved old new
  pub done : is_complete (feeder_of old) ≡ true → (item ≡ None) × IsUnmoved old new
  pub pulls : (longest : ℕ) (start : M) (input : List ℕ) (spans : List (Spanned E))
      → halt_of (feeder_of old) ≡ None
      → StandsAt longest start input spans (feeder_of old)
      → Pulls longest start input spans (feeder_of old) (left (source_of old)) (option_transpose item) (feeder_of new) (left (source_of new)) (history (source_of old)) (history (source_of new))
  pub row : (longest : ℕ) (start : M) (before : Option (List ℕ)) (spans : List (Spanned E))
      → HasPulled longest start before spans (feeder_of old) (left (source_of old))
      → PullsOn longest start before spans (option_transpose item) (feeder_of new) (left (source_of new))
  pub stop : halt_of (feeder_of old) ≡ None → halt_of (feeder_of new) ≡ stop_of (option_transpose item)
  pub last : halt_of (feeder_of old) ≡ None → item ≡ None → is_complete (feeder_of new) ≡ true
  pub onward : (event : Spanned E) → item ≡ Some (Ok event) → (place_of (feeder_of old)).offset < (place_of (feeder_of new)).offset
  pub past : (event : Spanned E) → item ≡ Some (Ok event) → event.past ≡ place_of (feeder_of new)
  pub faulty : faults (source_of new) ≡ faults_after (halt_of (feeder_of old)) (option_transpose item) (faults (source_of old))
  pub seen : halt_of (feeder_of old) ≡ None → IfErr (option_transpose item) (λ stop. IsShown (shown (source_of new)) (ended (source_of new)) stop.why)
  pub memory : halt_of (feeder_of old) ≡ None → IfErr (option_transpose item) (λ stop. (b : ℕ) × WantsMemory stop (feeder_of new) b)
