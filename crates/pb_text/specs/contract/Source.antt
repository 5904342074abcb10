-- What a source shows, and what is taken from it.
use Rattle.{pb_text.specs.declared.source.Failed.Failed, pb_text.specs.meaning.Writing.one_more, std.specs.Io.KnownBytes.Keeps}
use Rattle.std.specs.Prelude.{◌≡◌, ℕ, List, [], ◌∷◌, ◌++◌, Bool, true, false, Option, Some, None, Result, Ok, Err}

-- the bytes that are known, if any are, begin with this one
abbrev pub StartWith : Option (List ℕ) → ℕ → Type 0
StartWith None b = Unit {0}
StartWith (Some bytes) b = (rest : List ℕ) × (bytes ≡ b ∷ rest)

-- no byte is known
abbrev pub HaveEnded : Option (List ℕ) → Type 0
HaveEnded None = Unit {0}
HaveEnded (Some bytes) = bytes ≡ []

-- the first byte is removed
abbrev pub LosesFirst : Option (List ℕ) → Option (List ℕ) → Type 0
LosesFirst None new = Unit {0}
LosesFirst (Some []) new = Unit {0}
LosesFirst (Some (b ∷ rest)) new = new ≡ Some rest

module _ {S : Type 0} (left : S → Option (List ℕ)) (shown : S → Option ℕ) (ended : S → Bool) (history : S → List ℕ) (faults : S → ℕ) where
  -- a peek at the next byte, which takes none
  abbrev pub Peeks : S → Result (Option ℕ) Failed → S → Type 0
  Peeks old (Ok (Some b)) new = StartWith (left old) b × Keeps (left old) (left new) × (shown new ≡ Some b) × (faults new ≡ faults old) × (history new ≡ history old) × (ended new ≡ false)
  Peeks old (Ok None) new = HaveEnded (left old) × Keeps (left old) (left new) × (faults new ≡ faults old) × (history new ≡ history old) × (ended new ≡ true)
  Peeks old (Err e) new = Keeps (left old) (left new) × (faults new ≡ one_more (faults old)) × (history new ≡ history old) × (ended new ≡ false)

  -- the byte that was shown is taken, and is added to the bytes that the calls have given
  abbrev pub Skips : S → S → Type 0
  Skips old new = LosesFirst (left old) (left new) × (faults new ≡ faults old) × ((b : ℕ) → shown old ≡ Some b → history new ≡ history old ++ b ∷ [])

-- the bytes left in a source are those before without the taken ones, if it reports them
abbrev pub Lost : Option (List ℕ) → List ℕ → Option (List ℕ) → Type 0
Lost None taken now = Unit {0}
Lost (Some bytes) taken now = (rest : List ℕ) × (bytes ≡ taken ++ rest) × (now ≡ Some rest)
