-- Where a read may allocate, in terms of texts alone.
use Rattle.pb_text.specs.meaning.Spelling.{Item, bytes, bytes_of}
use Rattle.std.specs.Prelude.{◌≡◌, ℕ, List, ◌∷◌, ◌++◌}

-- After these bytes of a text, the next one is in a statement, at a position that may allocate. `Asks` says this of the
-- statement, its bytes so far and the next byte.
pub record AsksWithin {E : Type 0} (Asks : E → List ℕ → ℕ → Type 0) (items : List (Item E)) (used : List ℕ) (b : ℕ) : Type 0 where
  pub done : List (Item E)
  pub item : Item E
  pub rest : List (Item E)
  pub text : List ℕ
  pub more : List ℕ
  pub items_are : items ≡ done ++ item ∷ rest
  pub used_are : used ≡ bytes_of done ++ (item.gap ++ text)
  pub text_is : bytes item.text ≡ text ++ b ∷ more
  pub asks : Asks item.event text b

-- In each text that continues with the byte after these, the byte is at a position that may allocate.
abbrev pub AsksOnly : {E : Type 0} → (List (Item E) → Type 0) → (E → List ℕ → ℕ → Type 0) → List ℕ → ℕ → Type 0
AsksOnly {E} format Asks used b =
    (items : List (Item E)) (more : List ℕ) → format items → bytes_of items ≡ used ++ b ∷ more → AsksWithin Asks items used b
