-- The engine between two calls: what a call finds, and what it leaves.
use Rattle.pb_propagate.proofs.Common.{one_in, terms_in, form_at, IsAbsent, ℕ, ◌++◌, ◌-◌, ◌<◌, ◌∙◌, ◌∷◌, ◌≡◌, ◌⊎◌, [], ap, arith, false, get_or, inl, inr, ◌+◌}
use Rattle.pb_propagate.proofs.{Common.eqb-true, lemmas.clauses.Shapes.AreJoined-push, lemmas.engine.Bridge.AreKept, lemmas.engine.Literals.get_or-push_default}
use Rattle.pb_propagate.proofs.Common.{length, length-append, List, map, None, refl, set, subst, suc, sym, take, true, zero, Contains, Option, slice_get, Some}
use Rattle.pb_propagate.proofs.Common.{take-append_seam, length-map, map-append, Contains-append_left, Contains-push_cases, Form, StoredForm, AreJoined, ne_eqb}
use Rattle.pb_propagate.proofs.Common.{shapes_of, stored_shape, IsStoredAs, Shape, Live, AreSlots, IsSlot, With, ◌*◌, ◌/◌, rules, sum_by_push, ◌≤◌}
use Rattle.pb_propagate.proofs.Common.{Occurrence, entries_of, AreCrossed, IsLinked, IsStored, Weighted, sum_by-set, joined, one_term, slot_shape, entry_of}
use Rattle.pb_propagate.{proofs.Common.Cross, proofs.Common.eqb, proofs.Common.list_any, specs.engine.engine.Rest.no_slots, specs.engine.engine.Rest.add_slot}
use Rattle.pb_propagate.proofs.Common.{slice_get-get_or, slice_get_within, length-set, get_or-set_other, Contains-push, length_permutation, sum_by, sum_by-cons}
use Rattle.pb_propagate.proofs.lemmas.store.{Placed.at-inside, Placed.kept-same, Positions.ArePositioned, Positions.positioned-put}
use Rattle.std.proofs.lemmas.Map.{Keys.IsDistinct-from_apart, Steps.length-le_from_distinct_below, Views.Contains-from_any}

pub slots-more : (os : List (Option Form)) (xs : List Shape) (p : Option Form) (x : Shape) → AreSlots os xs → IsSlot p x → AreSlots (os ++ (p ∷ [])) (xs ++ (x ∷ []))
slots-more _ _ p x no_slots k = add_slot p x k no_slots
slots-more _ _ p x (add_slot o y s a) k = add_slot o y s (slots-more _ _ p x a k)

pub joined-entered : (keep keep' : List StoredForm) (k : StoredForm) (clauses : List (List ℕ)) → keep' ≡ keep ++ (k ∷ []) → AreJoined (shapes_of keep) clauses → AreJoined (shapes_of keep') clauses
joined-entered keep keep' k clauses keeps j = rw (keeps, map-append stored_shape keep (k ∷ [])) (AreJoined-push (shapes_of keep) clauses (stored_shape k) j)

pub slots-length : (os : List (Option Form)) (xs : List Shape) → AreSlots os xs → length xs ≡ length os
slots-length _ _ no_slots = refl
slots-length _ _ (add_slot o y s a) = ap suc (slots-length _ _ a)

-- the last form was removed
pub prefix-of : {X : Type 0} (xs ys : List X) (y : X) → xs ≡ ys ++ (y ∷ []) → take (length xs - 1) xs ≡ ys
prefix-of xs ys y e =
    let short : length (ys ++ (y ∷ [])) - 1 ≡ length ys = omega (arith, length-append ys (y ∷ [])) in
    rw (e, short) (take-append_seam ys (y ∷ []))

-- the stored forms and the live ones
slots-forth : (os : List (Option Form)) (xs : List Shape) → AreSlots os xs → (x : Shape) → Contains xs x → ((f : Form) × Live os f × IsStoredAs f x) ⊎ ((x.terms ≡ []) × (x.degree ≡ 0))
slots-forth _ _ no_slots x (i, inside, is) = absurd (omega (arith, inside))
slots-forth _ _ (add_slot None y s a) x (zero, inside, is) = let same : y ≡ x = is in inr (rw same at s)
slots-forth _ _ (add_slot (Some f) y s a) x (zero, inside, is) = inl (f, (0, omega arith, refl), subst (IsStoredAs f) is s)
slots-forth _ _ (add_slot o y s a) x (suc i, inside, is) = elim (slots-forth _ _ a x (i, omega (arith, inside), is)) [
  | inr empty ↦ inr empty
  | inl (f, (j, less, at), k) ↦ inl (f, (suc j, omega (arith, less), at), k)
]

slots-back : (os : List (Option Form)) (xs : List Shape) → AreSlots os xs → (f : Form) → Live os f → (x : Shape) × Contains xs x × IsStoredAs f x
slots-back _ _ no_slots f (i, inside, is) = absurd (omega (arith, inside))
slots-back _ _ (add_slot o y s a) f (zero, inside, is) = let same : o ≡ Some f = is in (y, (0, omega arith, refl), rw same at s)
slots-back _ _ (add_slot o y s a) f (suc i, inside, is) =
    let found = slots-back _ _ a f (i, omega (arith, inside), is) in
    (found.0, (suc found.1.0, omega (arith, found.1.1), found.1.2), found.2)

pub slots-kept : (os : List (Option Form)) (xs : List Shape) → AreSlots os xs → AreKept (Live os) xs
slots-kept os xs a = record { forth = slots-forth os xs a; back = slots-back os xs a }

pub with-kept : (os : List (Option Form)) (g : Form) (xs : List Shape) → AreSlots (os ++ (Some g ∷ [])) xs → AreKept (With (Live os) g) xs
with-kept os g xs a = kept-same (Live (os ++ (Some g ∷ []))) (With (Live os) g) xs
    (λ f h. grind (arith, Contains-push_cases os (Some g) (Some f) h))
    (λ f w. grind (arith, w, Contains-append_left os (Some g ∷ []) (Some f), Contains-push os (Some g))) (slots-kept (os ++ (Some g ∷ [])) xs a)

-- another form in a slot
pub slots-set : (os : List (Option Form)) (xs : List Shape) (s : ℕ) (p : Option Form) (x : Shape) → IsSlot p x → AreSlots os xs → AreSlots (set os s p) (set xs s x)
slots-set _ _ s p x e no_slots = no_slots
slots-set _ _ zero p x e (add_slot o y k a) = add_slot p x e a
slots-set _ _ (suc s) p x e (add_slot o y k a) = add_slot o y k (slots-set _ _ s p x e a)

-- the terms of the stored forms are those of the live ones
slot-terms : (o : Option Form) (x : Shape) → IsSlot o x → length x.terms ≡ terms_in o
slot-terms None x s = ap length s.0
slot-terms (Some f) x s = omega (arith, length_permutation (map entry_of x.terms) f.terms s.terms, length-map x.terms entry_of)

pub slots-terms : (os : List (Option Form)) (xs : List Shape) → AreSlots os xs → sum_by (λ f. length f.terms) xs ≡ sum_by terms_in os
slots-terms _ _ no_slots = refl
slots-terms _ _ (add_slot {os} {xs} o x s a) =
    omega (arith, slot-terms o x s, slots-terms os xs a, sum_by-cons {X = Shape}, sum_by-cons {X = Option Form})

-- the terms of the clauses and those of the occurrence lists
pub joined-terms : (xs : List Shape) (clauses : List (List ℕ)) → AreJoined xs clauses → sum_by (λ f. length f.terms) (joined xs clauses) ≡ sum_by (λ f. length f.terms) xs + sum_by length clauses
joined-terms [] [] j = omega arith
joined-terms (x ∷ xs) [] j = omega arith
joined-terms [] (codes ∷ clauses) j = absurd (omega (arith, j.short))
joined-terms (x ∷ xs) (codes ∷ clauses) j =
    let rest = joined-terms xs clauses (record { short = omega (arith, j.short); apart = λ s d less some. j.apart (suc s) d (omega (arith, less)) some; different = λ s. j.different (suc s) }) in
    omega (arith, rest, first codes (λ some. j.apart 0 x (omega arith) some), sum_by-cons {X = Shape}, sum_by-cons {X = List ℕ})
  where
    first : (ys : List ℕ) → (0 < length ys → (x.terms ≡ []) × (x.degree ≡ 0)) → length (slot_shape x ys).terms ≡ length x.terms + length ys
    first [] h = omega arith
    first (y ∷ ys) h = omega (arith, ap length (h (omega arith)).0, length-map (y ∷ ys) one_term)

-- no more slots have a form than there are forms
pub listed-few : (os : List (Option Form)) (list : List ℕ) → ((i j s : ℕ) → slice_get list i ≡ Some s → slice_get list j ≡ Some s → i ≡ j) → ((i s : ℕ) → slice_get list i ≡ Some s → (f : Form) × (form_at os s ≡ Some f)) → length list ≤ sum_by one_in os
listed-few os [] apart live = omega arith
listed-few os (x ∷ xs) apart live =
    let f = live 0 x refl in
    let inside = at-inside os x f.0 f.1 in
    let change = sum_by-set one_in os x None None inside in
    let rest = listed-few (set os x None) xs (λ i j s h k. let same = apart (suc i) (suc j) s h k in omega (arith, same)) (λ i s h.
    let g = live (suc i) s h in
    let other : s ≡ x → ⊥ = λ e. absurd (let same = apart 0 (suc i) s (ap (λ y. Some y) (sym e)) h in omega (arith, same)) in
    (g.0, get_or-set_other os x s None None other ∙ g.1)) in
    omega (arith, rest, change, ap one_in f.1)

-- a list without one of the numbers below a bound is shorter than the bound
pub positioned-room : (list positions : List ℕ) (form : ℕ) → form < length positions → IsAbsent list 0 form → ArePositioned list positions → length list < length positions
positioned-room list positions form inside gone positioned =
    let all = list ++ (form ∷ []) in
    let places = set positions form (length list) in
    let old = positioned-put list positions form inside gone positioned in
    let apart : (i j d : ℕ) → i < j → j < length all → eqb (get_or all i d) (get_or all j d) ≡ false = λ i j d less within.
    ne_eqb (get_or all i d) (get_or all j d) (λ e. grind (arith, old i (get_or all i d), old j (get_or all i d), slice_get-get_or all i d, slice_get-get_or all j d)) in
    let below : (q : ℕ) → list_any (eqb q) all ≡ true → q < length places = λ q h.
    let c = Contains-from_any eqb-true q all h in
    slice_get_within places q c.0 (old c.0 q (slice_get-get_or all c.0 q c.1 ∙ ap (λ x. Some x) c.2)) in
    omega (arith, length-le_from_distinct_below all (length places) (IsDistinct-from_apart eqb all apart) below, length-append list (form ∷ []), length-set positions form (length list))

-- one more variable
crossed-entries : (f g g' : ℕ → ℕ → Option Cross) → ((p q : ℕ) → g' p q ≡ g p q) → AreCrossed f g → AreCrossed f g'
crossed-entries f g g' e old s i p q w = (λ h. e p q ∙ (old s i p q w).0 h, λ h. (old s i p q w).1 (sym (e p q) ∙ h))

pub stored-push : (forms : List Shape) (spots : List (List ℕ)) (lists : List (List Weighted)) → IsLinked forms spots lists → IsLinked forms spots (lists ++ ([] ∷ []))
stored-push forms spots lists old = search (rules, get_or-push_default, old.linked, sum_by_push, old.totals, crossed-entries, old.crossed, old.sizes)

pub widened-stored : (forms : List Shape) (spots : List (List ℕ)) (occ occ1 occ2 : List (List Occurrence)) (n m : ℕ) → occ1 ≡ occ ++ [] ∷ [] → occ2 ≡ occ1 ++ [] ∷ [] → m ≡ n + 1 → IsStored forms spots (entries_of forms occ) n → IsStored forms spots (entries_of forms occ2) m
widened-stored forms spots occ occ1 occ2 n m one two more old = grind (arith, map-append, stored-push, old.whole, get_or-push_default, old.named, old.places, length-append, old.inside, old.rooms)

pub half : (x y n : ℕ) → x ≡ y → y ≡ 2 * n + 2 → x / 2 ≡ n + 1
half x y n e f = omega (arith, e, f)
