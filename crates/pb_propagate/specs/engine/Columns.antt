-- A list in pages of 64 values, of which those that are stored lie in one list of items.
use Rattle.std.specs.List.{range_with_len}
use Rattle.std.specs.Prelude.{◌≡◌, ℕ, ◌+◌, ◌-◌, ◌*◌, ◌/◌, ◌%◌, ◌^◌, ◌≤◌, ◌==◌, ◌⊎◌, if◌then◌else◌, List, length, map, sum_by, slice_index_or}

-- the start of a page that is not stored
abbrev pub nowhere : ℕ
nowhere = 2 ^ 64 - 1

-- where a page begins among the items
abbrev pub start_of : List ℕ → ℕ → ℕ
start_of pages page = slice_index_or pages page nowhere

-- the value of an index, which is the given one if its page is not stored, since there are no items from nowhere on
unfoldable pub value_at : {T : Type 0} → T → List ℕ → List T → ℕ → T
value_at empty pages items index = slice_index_or items (start_of pages (index / 64) + index % 64) empty

abbrev pub values_of : {T : Type 0} → T → List ℕ → List T → ℕ → List T
values_of empty pages items count = map (value_at empty pages items) (range_with_len 0 count)

-- The values from a position on are empty.
abbrev pub AreEmptyFrom : {T : Type 0} → T → List ℕ → List T → ℕ → Type 0
AreEmptyFrom empty pages items count = (k : ℕ) → count ≤ k → value_at empty pages items k ≡ empty

-- 1 for a page that is not stored
abbrev pub absent : ℕ → ℕ
absent start = if start == nowhere then 1 else 0

-- The stored pages are apart and fill `size` items, and there is memory for all pages.
pub record ArePages (pages : List ℕ) (size capacity : ℕ) : Type 0 where
  pub each : (page : ℕ) → (start_of pages page ≡ nowhere → ⊥) → start_of pages page + 64 ≤ size
  pub apart : (a b : ℕ) → (a ≡ b → ⊥) → (start_of pages a ≡ nowhere → ⊥) → (start_of pages b ≡ nowhere → ⊥) → (start_of pages a + 64 ≤ start_of pages b) ⊎ (start_of pages b + 64 ≤ start_of pages a)
  pub room : size + 64 * sum_by absent pages ≡ 64 * length pages
  pub memory : 64 * length pages ≤ capacity
