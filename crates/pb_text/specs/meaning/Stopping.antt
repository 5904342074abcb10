-- What a stop says about memory, and about what a source has shown.
use Rattle.pb_text.specs.declared.place.Why.{Why}
use Rattle.pb_text.specs.declared.place.Why.TheVariants.{Byte, TooLarge, Ended, TooLong, Read, Memory}
use Rattle.std.specs.Prelude.{◌≡◌, ℕ, List, ◌∷◌, Bool, true, Option, Some}

-- If out of memory, the next byte may allocate.
abbrev pub IsAsking : (List ℕ → ℕ → Type 0) → List ℕ → List ℕ → Why → Type 0
IsAsking MayAsk used seen Memory = (b : ℕ) × (more : List ℕ) × (seen ≡ b ∷ more) × MayAsk used b
IsAsking MayAsk used seen (Byte b) = Unit {0}
IsAsking MayAsk used seen TooLarge = Unit {0}
IsAsking MayAsk used seen Ended = Unit {0}
IsAsking MayAsk used seen TooLong = Unit {0}
IsAsking MayAsk used seen Read = Unit {0}

-- The stop is what the last peek has shown: the rejected byte, a byte past the limit, or the end.
abbrev pub IsShown : Option ℕ → Bool → Why → Type 0
IsShown shown ended (Byte b) = shown ≡ Some b
IsShown shown ended TooLarge = (b : ℕ) × (shown ≡ Some b)
IsShown shown ended TooLong = (b : ℕ) × (shown ≡ Some b)
IsShown shown ended Ended = ended ≡ true
IsShown shown ended Read = Unit {0}
IsShown shown ended Memory = Unit {0}
