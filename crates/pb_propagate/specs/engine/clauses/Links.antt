-- Watches, and the lists that contain them.
use Rattle.{pb_propagate.specs.declared.clauses.lists.Listed.Listed, pb_propagate.specs.declared.clauses.lists.Watch.Watch}
use Rattle.std.specs.Prelude.{◌≡◌, ℕ, ◌-◌, ◌/◌, ◌^◌, ◌<◌, ◌⊎◌, true, false, Contains, List, [], map, Some, slice_get, slice_index_or}

-- the watches on each literal
abbrev pub watch_lists : List (List Listed) → List (List ℕ)
watch_lists lists = map (map (λ x. x.watch)) lists

-- the list of a literal
abbrev pub list_at : List (List ℕ) → ℕ → List ℕ
list_at lists l = slice_index_or lists l []

-- no watch
abbrev pub idle : Watch
idle = record { literal = 0; live = false; spot = 0 }

abbrev pub watch_at : List Watch → ℕ → Watch
watch_at watches e = slice_index_or watches e idle

-- the watch is at this position of the literal's list
pub record Sits (w : Watch) (l i : ℕ) : Type 0 where
  pub live : w.live ≡ true
  pub literal : w.literal ≡ l
  pub spot : w.spot ≡ i

-- each live watch is where it says, and the lists contain nothing else. Its number has 32 bits.
pub record AreLinked (watches : List Watch) (lists : List (List ℕ)) : Type 0 where
  pub sits : (e l i : ℕ) → Sits (watch_at watches e) l i → slice_get (list_at lists l) i ≡ Some e
  pub named : (e l i : ℕ) → slice_get (list_at lists l) i ≡ Some e → Sits (watch_at watches e) l i
  pub small : (e : ℕ) → (watch_at watches e).live ≡ true → e < 2 ^ 32 - 2

-- a watch keeps its literal, and has a position before `index` only if it had that position
pub record Remains (index : ℕ) (old new : Watch) : Type 0 where
  pub live : new.live ≡ old.live
  pub literal : new.literal ≡ old.literal
  pub spot : new.spot < index → new.spot ≡ old.spot

-- the entries of a literal's list
abbrev pub entries_at : List (List Listed) → ℕ → List Listed
entries_at lists l = slice_index_or lists l []

-- the entry is in a list
abbrev pub IsListed : List (List Listed) → Listed → Type 0
IsListed lists x = (l : ℕ) × (i : ℕ) × (slice_get (entries_at lists l) i ≡ Some x)

-- no entry is new
abbrev pub AreFewer : List (List Listed) → List (List Listed) → Type 0
AreFewer old new = (x : Listed) → IsListed new x → IsListed old x

-- no entry but this one is new
abbrev pub AreMore : Listed → List (List Listed) → List (List Listed) → Type 0
AreMore entry old new = (x : Listed) → IsListed new x → (x ≡ entry) ⊎ IsListed old x

-- the blocker of each entry is a literal of the clause that its watch is of
abbrev pub AreBlocked : List (List ℕ) → List (List Listed) → Type 0
AreBlocked clauses lists = (x : Listed) → IsListed lists x → Contains (list_at clauses (x.watch / 2)) x.blocker
