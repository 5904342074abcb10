-- Many lists in one.
use Rattle.pb_propagate.specs.declared.parts.Part.{Part}
use Rattle.pb_propagate.specs.declared.parts.Span.{Span}
use Rattle.std.specs.List.{range_with_len}
use Rattle.std.specs.Prelude.{◌≡◌, ℕ, ◌+◌, ◌-◌, ◌^◌, ◌≤◌, ◌⊎◌, List, length, map, take, drop, Some, slice_get, slice_index_or}

-- the items of a part
abbrev pub part_of : {T : Type 0} → List T → Part → List T
part_of items p = take p.len (drop p.start items)

abbrev pub lists_of : {T : Type 0} → List T → List Part → List (List T)
lists_of items parts = map (part_of items) parts

-- the part of an empty list
abbrev pub nothing : Part
nothing = record { start = 0; len = 0; room = 0 }

-- ---- Parts by where their items are and by the exponents of their rooms.
-- where the items of an empty list are
abbrev pub no_span : Span
no_span = record { start = 0; len = 0 }

-- the room of a part with that exponent
abbrev pub room_of : ℕ → ℕ
room_of exponent = 2 ^ exponent - 1

-- the part of a list, which is nothing if it is not there
unfoldable pub part_in : List Span → List ℕ → ℕ → Part
part_in spans exponents list = record {
  start = (slice_index_or spans list no_span).start;
  len = (slice_index_or spans list no_span).len;
  room = room_of (slice_index_or exponents list 0);
}

abbrev pub parts_in : List Span → List ℕ → ℕ → List Part
parts_in spans exponents count = map (part_in spans exponents) (range_with_len 0 count)

-- Each span has an exponent, none of which is above 32, and the other exponents are 0. There is no span from the count on.
pub record AreStored (spans : List Span) (exponents : List ℕ) (count : ℕ) : Type 0 where
  pub within : length spans ≤ length exponents
  pub past : (k : ℕ) → length spans ≤ k → slice_index_or exponents k 0 ≡ 0
  pub low : (k : ℕ) → slice_index_or exponents k 0 ≤ 32
  pub counted : length spans ≤ count

-- That value was added any number of times, at most up to a position.
pub record IsPadded {T : Type 0} (old new : List T) (at : ℕ) (value : T) : Type 0 where
  pub same : (k : ℕ) → slice_index_or new k value ≡ slice_index_or old k value
  pub longer : length old ≤ length new
  pub ends : (length new ≤ length old) ⊎ (length new ≤ at + 1)

-- ---- What the parts have in common.
-- The part is within that many items.
pub record IsPart (size : ℕ) (p : Part) : Type 0 where
  pub room : p.len ≤ p.room
  pub inside : p.start + p.room ≤ size

-- Two parts have no item in common.
abbrev pub AreApart : Part → Part → Type 0
AreApart p q = (p.start + p.room ≤ q.start) ⊎ (q.start + q.room ≤ p.start)

pub record AreParts (size : ℕ) (parts : List Part) : Type 0 where
  pub each : (i : ℕ) (p : Part) → slice_get parts i ≡ Some p → IsPart size p
  pub apart : (i j : ℕ) (p q : Part) → slice_get parts i ≡ Some p → slice_get parts j ≡ Some q → (i ≡ j → ⊥) → AreApart p q
