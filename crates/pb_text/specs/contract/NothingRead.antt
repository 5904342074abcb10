-- A read of a source that failed before its first byte.
use Rattle.pb_text.specs.declared.place.{Place.Place, Stop.Stop, Why.TheVariants.Read}
use Rattle.pb_text.specs.meaning.{Reading.Reads, Spelling.Item}
use Rattle.std.specs.Prelude.{ℕ, List, [], false, Some}

-- the position of the first byte
abbrev pub first_place : Place
first_place = record { line = 1; column = 1; offset = 0 }

-- a read fault at the first byte
abbrev pub first_fault : Stop
first_fault = record { place = first_place; why = Read }

-- Whatever bytes the source has, to use none of them and return that fault is a read under the format.
abbrev pub ReadsNothing : {E : Type 0} → (List (Item E) → Type 0) → ℕ → Type 0
ReadsNothing format longest = (bytes : List ℕ) → Reads format longest bytes [] [] first_place false (Some first_fault)
