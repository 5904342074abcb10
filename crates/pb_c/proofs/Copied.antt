-- Arrays that are filled element by element, and texts that are joined, with the position where each begins.
use Rattle.pb_c.proofs.Common.{ℕ, ℤ, ◌++◌, ◌+◌, ◌<◌, ◌∙◌, ◌∷◌, ◌≡◌, ◌≤ℤ◌, [], ap, ap₂, arith, Bool, false, length, List, map, negsuc, None, pos, refl}
use Rattle.pb_c.proofs.Common.{slice_get, Some, sym, take, true, unsigned_abs, set, ints, map-append, take_more, take_more_set, get_or_from_slice_get}
use Rattle.pb_c.proofs.Common.{slice_get-get_or, slice_get_within, ◌≤◌, ◌⊎◌, append-nil, get_or, inl, inr, length-append, min, get_or-set_other}
use Rattle.{pb_c.proofs.Common.get_or-set_same, pb_c.proofs.Common.joined, pb_pieces.specs.Terms.bit}
use Rattle.std.proofs.lemmas.{Bool.cases_lt, Grind.flat_map-append, List.Folds.length-flat_map-take}
use mir.Val.{bool_byte}

-- the first elements with one more
pub take_next : {X : Type 0} (from : List X) (i : ℕ) (x : X) → slice_get from i ≡ Some x → take (i + 1) from ≡ take i from ++ x ∷ []
take_next {X} from i x at = take_more from i x (slice_get_within from i x at) ∙ ap (λ (y : X). take i from ++ y ∷ []) (get_or_from_slice_get from i x x at)

-- one element more is copied
pub copied_more : {X A : Type 0} (f : X → A) (from : List X) (to : List A) (i : ℕ) (x : X) (y : A) → i < length to → slice_get from i ≡ Some x → y ≡ f x → take i to ≡ map f (take i from) → take (i + 1) (set to i y) ≡ map f (take (i + 1) from)
copied_more {X} {A} f from to i x y inside at is filled =
    take_more_set to i y inside
    ∙ (ap₂ (λ (done : List A) (z : A). done ++ z ∷ []) filled is ∙ (sym (map-append f (take i from) (x ∷ [])) ∙ ap (λ (xs : List X). map f xs) (sym (take_next from i x at))))

-- the values that are copied
pub positive_is : (z : ℤ) → pos 1 ≤ℤ z → pos (unsigned_abs z) ≡ z
positive_is (pos n) h = refl
positive_is (negsuc n) h = absurd (let no : ⊥ = omega (arith, ints, h) in no)

pub byte_is : (b : Bool) → bool_byte b ≡ bit b
byte_is true = refl
byte_is false = refl

-- an element inside a list is there
pub inside_some : {X : Type 0} (xs : List X) (i : ℕ) → i < length xs → None ≡ slice_get xs i → ⊥
inside_some [] i h none = omega (arith, h)
inside_some (x ∷ xs) i h none = let e = slice_get-get_or (x ∷ xs) i x h in cc

-- one more
pub joined_next : (names : List (List ℕ)) (i : ℕ) (name : List ℕ) → slice_get names i ≡ Some name → joined (take (i + 1) names) ≡ joined (take i names) ++ name
joined_next names i name at =
    ap joined (take_next names i name at) ∙ (flat_map-append (λ (x : List ℕ). x) (take i names) (name ∷ []) ∙ ap (λ (x : List ℕ). joined (take i names) ++ x) (append-nil name))

pub length_next : (names : List (List ℕ)) (i : ℕ) (name : List ℕ) → slice_get names i ≡ Some name → length (joined (take (i + 1) names)) ≡ length (joined (take i names)) + length name
length_next names i name at = ap length (joined_next names i name at) ∙ length-append (joined (take i names)) name

-- the position of one more
pub starts_next : (names : List (List ℕ)) (starts : List ℕ) (i v : ℕ) → ((k : ℕ) → k < i → get_or starts k 0 ≡ length (joined (take k names))) → v ≡ length (joined (take i names)) → i < length starts
    → (k : ℕ) → k < i + 1 → get_or (set starts i v) k 0 ≡ length (joined (take k names))
starts_next names starts i v before is inside k h = by (cases_lt k i)
  where
    by : (k < i) ⊎ (i ≤ k) → get_or (set starts i v) k 0 ≡ length (joined (take k names))
    by (inl less) = get_or-set_other starts i k v 0 (λ e. absurd (let no : ⊥ = omega (arith, e, less) in no)) ∙ before k less
    by (inr more) =
        let same : k ≡ i = omega (arith, h, more) in
        ap (λ (j : ℕ). get_or (set starts i v) j 0) same ∙ (get_or-set_same starts i v 0 inside ∙ (is ∙ ap (λ (j : ℕ). length (joined (take j names))) (sym same)))

-- a count that stays at the largest number
pub counted_next : (a b m count : ℕ) → count ≡ min a m → min (count + b) m ≡ min (a + b) m
counted_next a b m count is = omega (arith, is)

-- each name ends within the text
pub joined_within : (names : List (List ℕ)) (i : ℕ) (name : List ℕ) → slice_get names i ≡ Some name → length (joined (take i names)) + length name ≤ length (joined names)
joined_within names i name at =
    rw (get_or_from_slice_get names i name name at) at (length-flat_map-take (λ (x : List ℕ). x) names i name (slice_get_within names i name at))
