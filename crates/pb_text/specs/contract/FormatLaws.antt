-- The laws of a format whose numbers have limits: a largest coefficient and a largest count.
use Rattle.pb_text.specs.meaning.{Reading.HasFixedSpans, Spelling.Item, Spelling.bytes_of}
use Rattle.std.specs.Prelude.{◌≡◌, ℕ, ◌≤◌, List, [], ◌++◌}

module _ {E : Type 0} (format : ℕ → ℕ → List (Item E) → Type 0) where
  -- A text is parsed in one way.
  abbrev pub IsOneText : Type 0
  IsOneText = (limit top : ℕ) (items items' : List (Item E)) →
      format limit top items → format limit top items' → bytes_of items ≡ bytes_of items' → items ≡ items'

  -- In all texts that begin with the same prefix, the spans that end within it are the same.
  abbrev pub FixesSpans : Type 0
  FixesSpans = (limit top : ℕ) → HasFixedSpans (format limit top)

  -- No text of the format is a proper prefix of another.
  abbrev pub IsPrefixFree : Type 0
  IsPrefixFree = (limit top : ℕ) (items items' : List (Item E)) (more : List ℕ) →
      format limit top items → format limit top items' → bytes_of items' ≡ bytes_of items ++ more → more ≡ []

  -- A text of the format remains one under larger limits.
  abbrev pub Widens : Type 0
  Widens = (limit limit' top top' : ℕ) (items : List (Item E)) → limit ≤ limit' → top ≤ top' →
      format limit top items → format limit' top' items
