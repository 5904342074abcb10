-- What is poured from a source into a feeder.
use Rattle.pb_text.specs.contract.{Feeding.StandsAt, Feeding.spans_in, Feeding.place_of, Source.Lost}
use Rattle.pb_text.specs.declared.{feeder.Feeder.Feeder, machine.Machine.Ghosts, place.Spanned.Spanned, place.Stop.Stop}
use Rattle.std.specs.Prelude.{◌≡◌, ◌+◌, ◌<◌, ℕ, List, ◌++◌, length, Option, Some, Result, Ok, Err}

-- what a call returned, with the event that it brought
abbrev pub drawn : {A E : Type 0} → Result A Stop → Option (Spanned E) → Result (Option (Spanned E)) Stop
drawn (Ok x) event = Ok event
drawn (Err s) event = Err s

-- The feeder was given these bytes, which were removed from the source and which its calls have given. If an event came,
-- it ends with the last of them. Otherwise no event ends in them.
pub record Pours {M E : Type 0} {g : Ghosts M E} (old : Feeder M E g) (before : Option (List ℕ)) (given : List ℕ) (event : Option (Spanned E)) (new : Feeder M E g) (after : Option (List ℕ)) (given' : List ℕ) : Type 0 where
  pub taken : List ℕ
  pub lost : Lost before taken after
  pub given_are : given' ≡ given ++ taken
  pub offset_is : (place_of new).offset ≡ (place_of old).offset + length taken
  pub stands : (longest : ℕ) (start : M) (input : List ℕ) (spans : List (Spanned E)) → StandsAt longest start input spans old → StandsAt longest start (input ++ taken) (spans ++ spans_in event) new
  pub some : (e : Spanned E) → event ≡ Some e → 0 < length taken
  pub past : (e : Spanned E) → event ≡ Some e → e.past ≡ place_of new
