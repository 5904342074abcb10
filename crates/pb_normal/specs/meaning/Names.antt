-- Names in the order of their first appearance. A name's number is its position, counted from 0.
use Rattle.std.specs.{List.list_any, List.position_or_len, Str.bytes_eq}
use Rattle.std.specs.Prelude.{◌≡◌, ℕ, Bool, true, false, List, [], ◌∷◌, ◌++◌, take, if◌then◌else◌}

abbrev pub has_name : List (List ℕ) → List ℕ → Bool
has_name names name = list_any (bytes_eq name) names

-- no name appears twice
abbrev pub AreDistinct : List (List ℕ) → Type 0
AreDistinct [] = Unit {0}
AreDistinct (n ∷ ns) = (has_name ns n ≡ false) × AreDistinct ns

-- the names after one more name appeared
abbrev pub with_name : List (List ℕ) → List ℕ → List (List ℕ)
with_name names name = if has_name names name then names else names ++ name ∷ []

-- the names after others appeared one after another
abbrev pub with_names : List (List ℕ) → List (List ℕ) → List (List ℕ)
with_names names [] = names
with_names names (n ∷ ns) = with_names (with_name names n) ns

-- a prefix of the others has appeared
abbrev pub AfterPrefix : List (List ℕ) → List (List ℕ) → List (List ℕ) → Type 0
AfterPrefix names others new = (k : ℕ) × (new ≡ with_names names (take k others))

-- a name's number, if it has one
abbrev pub number_in : List (List ℕ) → List ℕ → ℕ
number_in names name = position_or_len (bytes_eq name) names

-- all of the others have a number
abbrev pub HasNames : List (List ℕ) → List (List ℕ) → Type 0
HasNames names [] = Unit {0}
HasNames names (n ∷ ns) = (has_name names n ≡ true) × HasNames names ns
