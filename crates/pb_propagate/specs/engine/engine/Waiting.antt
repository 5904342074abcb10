-- A list of forms from which one was removed.
use Rattle.pb_propagate.specs.engine.engine.Counts.{IsAbsent}
use Rattle.std.specs.Prelude.{◌≡◌, ℕ, List, Some, slice_get}

-- the form is not on the new list, and all others that were on the old one are
pub record IsWithout (form : ℕ) (old new : List ℕ) : Type 0 where
  pub others : (s : ℕ) → (s ≡ form → ⊥) → IsAbsent new 0 s → IsAbsent old 0 s
  pub older : (i s : ℕ) → slice_get new i ≡ Some s → (s ≡ form → ⊥) × (j : ℕ) × (slice_get old j ≡ Some s)
