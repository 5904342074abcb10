-- The slots of removed forms, in lists by size.
use Rattle.pb_propagate.specs.declared.free.Free.{Free}
use Rattle.std.specs.Prelude.{◌≡◌, ℕ, ◌-◌, ◌^◌, ◌<◌, ◌≤◌, ◌∷◌, [], List, Contains, length, slice_index_or}

-- no slot
abbrev pub nobody : ℕ
nobody = 2 ^ 64 - 1

-- a list of slots from its last one on, each with the one before it
pub data IsChain (before : List ℕ) : ℕ → List ℕ → Type 0 where
  ended : IsChain before nobody []
  linked : {slots : List ℕ} (slot : ℕ) → slot < length before → IsChain before (slice_index_or before slot nobody) slots → IsChain before slot (slot ∷ slots)

-- the slots of a size are these
abbrev pub Holds : Free → ℕ → List ℕ → Type 0
Holds free size slots = IsChain free.before (slice_index_or free.last size nobody) slots

-- a slot was added to the list of a size, if it was in no list
pub record HasPut (slot size : ℕ) (old new : Free) : Type 0 where
  pub others : (s : ℕ) (slots : List ℕ) → (s ≡ size → ⊥) → (Contains slots slot → ⊥) → Holds old s slots → Holds new s slots
  pub here : (slots : List ℕ) → (Contains slots slot → ⊥) → Holds old size slots → Holds new size (slot ∷ slots)

-- the last slot of a size was taken
pub record HasTaken (slot size : ℕ) (old new : Free) : Type 0 where
  pub others : (s : ℕ) (slots : List ℕ) → (s ≡ size → ⊥) → Holds old s slots → Holds new s slots
  pub here : (slots : List ℕ) → Holds old size slots → (rest : List ℕ) × (slots ≡ slot ∷ rest) × Holds new size rest

-- the size of the list for a room
pub record IsSizeOf (room size : ℕ) : Type 0 where
  pub most : size ≤ 64
  pub exact : room ≤ 32 → size ≡ room
  pub long : 32 < room → 32 < size
