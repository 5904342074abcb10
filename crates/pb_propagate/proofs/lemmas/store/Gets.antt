-- The elements at positions of a list. Offered to other crates.
use Rattle.pb_propagate.proofs.Common.{get_or-set_same, get_or_from_slice_get, get_or_push, length-append, length-map, length-set, length-take, length-take-le, map-set}
use Rattle.pb_propagate.proofs.Common.{option_map, slice_get-get_or, slice_get-map, slice_get_past, swap_remove, take-map, get_or_append_left, get_or_past, ◌-◌, ℕ, ◌++◌}
use Rattle.pb_propagate.proofs.Common.{◌+◌, ◌<◌, ◌∙◌, ◌∷◌, ◌≡◌, ◌≤◌, [], ap, arith, get_or, length, List, map, None, refl, set, sym, take, Contains, slice_get, Some}
use Rattle.pb_propagate.proofs.Common.{cases_lt, get_or-take, get_or-set_other}
use Rattle.std.proofs.{Math.ListN.get_or-map, lemmas.Option.slice_get_cases, lemmas.Option.slice_get_read}

-- the empty list has no element
pub contains-none : {X : Type 0} (xs : List X) (x : X) → xs ≡ [] → Contains xs x → ⊥
contains-none [] x e (k, lt, is) = omega (arith, lt)
contains-none (y ∷ xs) x e c = cc

pub get-take_less : {X : Type 0} (xs : List X) (i j : ℕ) → j < i → slice_get (take i xs) j ≡ slice_get xs j
get-take_less xs i j h = grind (arith, slice_get_cases (take i xs) j, slice_get_cases xs j, get_or-take, get_or_from_slice_get, length-take)

pub get-take_past : {X : Type 0} (xs : List X) (i j : ℕ) → i ≤ j → slice_get (take i xs) j ≡ None
get-take_past xs i j h = slice_get_past (take i xs) j (omega (arith, length-take i xs, h))

pub get-set_same : {X : Type 0} (xs : List X) (j : ℕ) (y : X) → j < length xs → slice_get (set xs j y) j ≡ Some y
get-set_same xs j y h = grind (arith, slice_get-get_or (set xs j y) j y, get_or-set_same, length-set)

-- the same at a number that is equal, for `grind`
pub get-set_at : {X : Type 0} (xs : List X) (j k : ℕ) (y : X) → k ≡ j → j < length xs → slice_get (set xs j y) k ≡ Some y
get-set_at xs j k y is h = rw is (get-set_same xs j y h)

pub get-set_other : {X : Type 0} (xs : List X) (j k : ℕ) (y : X) → (k ≡ j → ⊥) → slice_get (set xs j y) k ≡ slice_get xs k
get-set_other xs j k y n = grind (arith, cases_lt k (length xs), slice_get-get_or (set xs j y) k y, slice_get-get_or xs k y, slice_get_past, get_or-set_other, length-set)

pub get-push_other : {X : Type 0} (xs : List X) (k : ℕ) (y : X) → (k ≡ length xs → ⊥) → slice_get (xs ++ (y ∷ [])) k ≡ slice_get xs k
get-push_other xs k y n =
    grind (arith, cases_lt k (length xs), slice_get-get_or (xs ++ (y ∷ [])) k y, slice_get-get_or xs k y, slice_get_past, get_or_append_left, length-append)

pub get-push_less : {X : Type 0} (xs : List X) (k : ℕ) (y : X) → k < length xs → slice_get (xs ++ (y ∷ [])) k ≡ slice_get xs k
get-push_less xs k y h = get-push_other xs k y (λ e. absurd (omega (arith, h, e)))

pub get-push_same : {X : Type 0} (xs : List X) (k : ℕ) (y : X) → k ≡ length xs → slice_get (xs ++ (y ∷ [])) k ≡ Some y
get-push_same xs k y h = slice_get-get_or (xs ++ (y ∷ [])) k y (omega (arith, h, length-append xs (y ∷ []))) ∙ ap (λ x. Some x) (get_or_push xs y y k (sym h))

-- the last element of two lists that differ only there
pub last-is : {X : Type 0} (xs : List X) (y d : X) (k : ℕ) → k ≡ length xs → get_or (xs ++ (y ∷ [])) k d ≡ y
last-is xs y d k h = get_or_push xs y d k (sym h)

-- appending the value that is read past the end changes nothing
pub push-default : {X : Type 0} (xs : List X) (k : ℕ) (d : X) → get_or (xs ++ (d ∷ [])) k d ≡ get_or xs k d
push-default xs k d = grind (arith, get_or_append_left, get_or_past, get_or_push, length-append, cases_lt k (length xs))

pub get-map : {X Y : Type 0} (f : X → Y) (xs : List X) (i : ℕ) (x : X) → i < length xs → x ≡ get_or xs i x → slice_get (map f xs) i ≡ Some (f x)
get-map f xs i x h e = slice_get-map f xs i ∙ ap (option_map f) (slice_get_read xs (length xs) i x refl h e)

-- a list without one of its entries
pub swap-other : {X : Type 0} (es : List X) (q k : ℕ) (d : X) → (k ≡ q → ⊥) → (k ≡ length es - 1 → ⊥) → slice_get (swap_remove es q d) k ≡ slice_get es k
swap-other es q k d n m = grind (arith, get-take_less, get-take_past, get-set_other, slice_get_past, cases_lt k (length es - 1))

pub swap-past : {X : Type 0} (es : List X) (q j : ℕ) (d : X) → length es - 1 ≤ j → slice_get (swap_remove es q d) j ≡ None
swap-past es q j d past = get-take_past (set es q (get_or es (length es - 1) d)) (length es - 1) j past

pub swap-here : {X : Type 0} (es : List X) (q : ℕ) (d e : X) → q + 1 < length es → slice_get es (length es - 1) ≡ Some e → slice_get (swap_remove es q d) q ≡ Some e
swap-here es q d e more is = grind (arith, get-take_less, get-set_same, get_or_from_slice_get)

pub swap-length : {X : Type 0} (es : List X) (q : ℕ) (d : X) → q < length es → length (swap_remove es q d) + 1 ≡ length es
swap-length es q d inside = grind (arith, length-set, length-take-le)

pub swap-map : {X Y : Type 0} (f : X → Y) (xs : List X) (q : ℕ) (d : X) → map f (swap_remove xs q d) ≡ swap_remove (map f xs) q (f d)
swap-map f xs q d =
    let n = length xs - 1 in
    let x = get_or xs n d in
    sym (take-map f n (set xs q x))
    ∙ ap (take n) (map-set f xs q x ∙ ap (set (map f xs) q) (sym (get_or-map f xs n d)))
    ∙ ap (λ m. take (m - 1) (set (map f xs) q (get_or (map f xs) (m - 1) (f d)))) (sym (length-map xs f))
