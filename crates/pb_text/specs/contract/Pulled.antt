-- What a pull says of its feeder and its source.
use Rattle.pb_text.specs.contract.{Feeding.StandsAt, Feeding.WantsMemory, Feeding.place_of, Feeding.halt_of, Feeding.is_complete, Standing.IsOpen}
use Rattle.pb_text.specs.declared.{feeder.Feeder.Feeder, machine.Machine.Ghosts, place.Spanned.Spanned, place.Stop.Stop}
use Rattle.pb_text.specs.meaning.{Pulling.Pulls, PullsInARow.HasPulled, PullsInARow.PullsOn}
use Rattle.std.specs.Prelude.{◌≡◌, ◌<◌, ℕ, List, true, Option, Some, None, Result, Ok, Err}

module _ {M E : Type 0} {g : Ghosts M E} where
  -- The pull of a feeder that was fed any input.
  abbrev pub PullsOnce : Feeder M E g → Option (List ℕ) → List ℕ → Result (Option (Spanned E)) Stop → Feeder M E g → Option (List ℕ) → List ℕ → Type 0
  PullsOnce old before given result new after given' =
      (longest : ℕ) (start : M) (input : List ℕ) (spans : List (Spanned E))
      → IsOpen (halt_of old)
      → StandsAt longest start input spans old
      → Pulls longest start input spans old before result new after given given'

  -- The next of any consecutive pulls.
  abbrev pub PullsInTurn : Feeder M E g → Option (List ℕ) → Result (Option (Spanned E)) Stop → Feeder M E g → Option (List ℕ) → Type 0
  PullsInTurn old now result new after =
      (longest : ℕ) (start : M) (before : Option (List ℕ)) (spans : List (Spanned E))
      → HasPulled longest start before spans old now
      → PullsOn longest start before spans result new after

  -- Once stopped, the call returns that stop and changes neither the feeder nor the source.
  abbrev pub StaysStopped : {S : Type 0} → Feeder M E g → S → Result (Option (Spanned E)) Stop → Feeder M E g → S → Type 0
  StaysStopped old source result new source' =
      (stop : Stop) → halt_of old ≡ Some stop → (result ≡ Err stop) × (new ≡ old) × (source' ≡ source)

  -- Once done, it returns no event and changes neither.
  abbrev pub StaysDone : {S : Type 0} → Feeder M E g → S → Result (Option (Spanned E)) Stop → Feeder M E g → S → Type 0
  StaysDone old source result new source' =
      is_complete old ≡ true → halt_of old ≡ None → (result ≡ Ok None) × (new ≡ old) × (source' ≡ source)

  -- The feeder is past this event.
  pub record IsPast (old : Feeder M E g) (event : Spanned E) (new : Feeder M E g) : Type 0 where
    pub onward : (place_of old).offset < (place_of new).offset
    pub past : event.past ≡ place_of new

  -- If out of memory, the feeder is at a byte that may allocate.
  abbrev pub IsWanting : Feeder M E g → Stop → Type 0
  IsWanting new stop = (b : ℕ) × WantsMemory stop new b
