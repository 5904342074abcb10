-- A name keeps its number, and names appear one by one. Offered to other crates.
use Rattle.pb_normal.proofs.Common.{ℕ, ◌++◌, ◌<◌, ◌∙◌, ◌∷◌, ◌≡◌, [], ap, arith, Bool, Err, false, List, map, Ok, OnErr, refl, Result, slice_get, Some}
use Rattle.pb_normal.proofs.Common.{◌+◌, get_or, length, suc, sym, take, take_read, true, zero, or_from, or_right, map-append, take-map, slice_get_within, bytes_eq-Decides, list_any}
use Rattle.pb_normal.proofs.Common.{position_or_len, bytes_eq, Term, Entry, Side, entry_of, raw_of, AfterPrefix, AreDistinct, has_name, HasNames, number_in}
use Rattle.pb_normal.proofs.Common.{with_name, with_names, names_of, side_number, side_terms}

-- a position that was found is the same if more elements follow
position_or_len-found : {A : Type 0} (p : A → Bool) (xs ys : List A) → list_any p xs ≡ true → position_or_len p (xs ++ ys) ≡ position_or_len p xs
position_or_len-found p [] ys e = absurd cc
position_or_len-found p (x ∷ xs) ys e = grind (arith, position_or_len-found p xs ys)

list_any-more : {A : Type 0} (p : A → Bool) (xs ys : List A) → list_any p xs ≡ true → list_any p (xs ++ ys) ≡ true
list_any-more p [] ys e = absurd cc
list_any-more p (x ∷ xs) ys e = grind (arith, list_any-more p xs ys)

list_any-last : {A : Type 0} (p : A → Bool) (xs : List A) (y : A) → p y ≡ true → list_any p (xs ++ y ∷ []) ≡ true
list_any-last p [] y e = rw e refl
list_any-last p (x ∷ xs) y e = or_right (p x) _ (list_any-last p xs y e)

-- names keep their numbers if more names follow
pub has_name-append : (names more : List (List ℕ)) (q : List ℕ) → has_name names q ≡ true → has_name (names ++ more) q ≡ true
has_name-append names more q e = list_any-more (bytes_eq q) names more e

pub number_in-append : (names more : List (List ℕ)) (q : List ℕ) → has_name names q ≡ true → number_in (names ++ more) q ≡ number_in names q
number_in-append names more q e = position_or_len-found (bytes_eq q) names more e

with_name-keeps : (q k : List ℕ) (ks : List (List ℕ)) → has_name ks q ≡ true → (has_name (with_name ks k) q ≡ true) × (number_in (with_name ks k) q ≡ number_in ks q)
with_name-keeps q k ks e = grind (arith, has_name-append, number_in-append)

pub with_name-has : (k : List ℕ) (ks : List (List ℕ)) → has_name (with_name ks k) k ≡ true
with_name-has k ks = grind (arith, list_any-last, bytes_eq-Decides)

pub HasNames-push : (ks ns : List (List ℕ)) (k : List ℕ) → HasNames ks ns → HasNames (with_name ks k) (ns ++ k ∷ [])
HasNames-push ks [] k h = (with_name-has k ks, tt)
HasNames-push ks (n ∷ ns) k h = ((with_name-keeps n k ks h.0).0, HasNames-push ks ns k h.1)

pub with_names-push : (ks ns : List (List ℕ)) (k : List ℕ) → with_names ks (ns ++ k ∷ []) ≡ with_name (with_names ks ns) k
with_names-push ks [] k = refl
with_names-push ks (n ∷ ns) k = with_names-push (with_name ks n) ns k

-- a name is found at its number
pub slice_get-number : (names : List (List ℕ)) (q : List ℕ) → has_name names q ≡ true → slice_get names (number_in names q) ≡ Some q
slice_get-number [] q e = absurd cc
slice_get-number (n ∷ names) q e = grind (arith, bytes_eq-Decides q n, slice_get-number names q)

pub number_in-below : (names : List (List ℕ)) (q : List ℕ) → has_name names q ≡ true → number_in names q < length names
number_in-below names q e = slice_get_within names (number_in names q) q (slice_get-number names q e)

pub has_name-get : (names : List (List ℕ)) (x : ℕ) (q : List ℕ) → slice_get names x ≡ Some q → has_name names q ≡ true
has_name-get [] x q e = absurd cc
has_name-get (n ∷ names) zero q e = grind (arith, bytes_eq-Decides q n)
has_name-get (n ∷ names) (suc x) q e = or_right (bytes_eq q n) _ (has_name-get names x q e)

-- among distinct names a name has one position
pub number_in-get : (names : List (List ℕ)) (x : ℕ) (q : List ℕ) → AreDistinct names → slice_get names x ≡ Some q → number_in names q ≡ x
number_in-get [] x q d e = absurd cc
number_in-get (n ∷ names) zero q d e = grind (arith, bytes_eq-Decides q n)
number_in-get (n ∷ names) (suc x) q d e = grind (arith, bytes_eq-Decides q n, d, has_name-get names x q e, number_in-get names x q d.1 e)

none_pushed : (names : List (List ℕ)) (k n : List ℕ) → has_name names n ≡ false → bytes_eq n k ≡ false → has_name (names ++ k ∷ []) n ≡ false
none_pushed [] k n h f = or_from (bytes_eq n k) false f refl
none_pushed (m ∷ names) k n h f = grind (arith, none_pushed names k n)

-- distinct names and a new one are distinct
pub AreDistinct-push : (names : List (List ℕ)) (k : List ℕ) → AreDistinct names → has_name names k ≡ false → AreDistinct (names ++ k ∷ [])
AreDistinct-push [] k d e = (refl, tt)
AreDistinct-push (n ∷ names) k d e = grind (arith, bytes_eq-Decides k n, bytes_eq-Decides n k, none_pushed names k n, AreDistinct-push names k)

pub AreDistinct-prefix : (names more : List (List ℕ)) → AreDistinct (names ++ more) → AreDistinct names
AreDistinct-prefix [] more d = tt
AreDistinct-prefix (n ∷ names) more d = grind (arith, has_name-append names more n, AreDistinct-prefix names more)

pub AreDistinct-with : (names : List (List ℕ)) (k : List ℕ) → AreDistinct names → AreDistinct (with_name names k)
AreDistinct-with names k d = grind (arith, AreDistinct-push)

raw-with : (side : Side) (k : List ℕ) (ks : List (List ℕ)) (ts : List Term) → HasNames ks (names_of ts) → map (raw_of (with_name ks k)) (side_terms side ts) ≡ map (raw_of ks) (side_terms side ts)
raw-with side k ks [] h = refl
raw-with side k ks (t ∷ ts) h = grind (arith, with_name-keeps t.literal.name k ks h.0, raw-with side k ks ts h.1)

-- the terms so far, over the names so far
pub record Numbering (side : Side) (old new : List (List ℕ)) (ts : List Term) (out : List Entry) : Type 0 where
  pub distinct : AreDistinct new
  pub named : HasNames new (names_of ts)
  pub names : new ≡ with_names old (names_of ts)
  pub entries : out ≡ map (raw_of new) (side_terms side ts)

-- one more term
pub Numbering-push : (side : Side) (old ks new : List (List ℕ)) (ts : List Term) (t : Term) (out : List Entry) (n : ℕ) → Numbering side old ks ts out → new ≡ with_name ks t.literal.name → n ≡ number_in new t.literal.name → Numbering side old new (ts ++ t ∷ []) (out ++ entry_of n t.literal.negated (side_number side t.coefficient) ∷ [])
Numbering-push side old ks new ts t out n h e p = record {
  distinct = rw e (AreDistinct-with ks t.literal.name h.distinct);
  named = rw (e, map-append) (HasNames-push ks (names_of ts) t.literal.name h.named);
  names = grind (arith, map-append, with_names-push, h.names);
  entries = grind (arith, map-append, raw-with side t.literal.name ks ts h.named, h.entries);
}

-- the names of one more term
pub names-read : (old ks new : List (List ℕ)) (ts : List Term) (i : ℕ) (t : Term) → i < length ts → t ≡ get_or ts i t → ks ≡ with_names old (names_of (take i ts)) → new ≡ with_name ks t.literal.name → new ≡ with_names old (names_of (take (i + 1) ts))
names-read old ks new ts i t lt e before k = rw (take_read ts i t t lt e) (grind (arith, map-append, with_names-push, before, k))

pub OnErr-always : {A E : Type 0} (r : Result A E) (P : Type 0) → P → OnErr r P
OnErr-always (Ok _) P p = tt
OnErr-always (Err _) P p = p

pub AfterPrefix-from : (side : Side) (old new : List (List ℕ)) (ts : List Term) (i : ℕ) (out : List Entry) → Numbering side old new (take i ts) out → AfterPrefix old (names_of ts) new
AfterPrefix-from side old new ts i out h = (i, h.names ∙ ap (with_names old) (sym (take-map (λ (t : Term). t.literal.name) i ts)))
