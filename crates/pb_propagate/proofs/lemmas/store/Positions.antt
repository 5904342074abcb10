-- Lists of numbers: the position of each in a list that has it once, and lists of free slots.
use Rattle.pb_propagate.{proofs.lemmas.store.Options.some-one, specs.declared.free.Free.Free}
use Rattle.pb_propagate.proofs.{Common.get_or-set_same, Common.get_or_past, lemmas.store.Gets.get-set_at}
use Rattle.pb_propagate.proofs.Common.{ℕ, ◌++◌, ◌+◌, ◌-◌, ◌<◌, ◌∙◌, ◌∷◌, ◌≡◌, ◌≤◌, [], ap, arith, Bool, get_or, if◌then◌else◌, inl, inr, length, length-append}
use Rattle.pb_propagate.proofs.Common.{List, set, suc, sym, slice_get, Some, swap_remove, cases_Bool, cases_eq, get_or_from_slice_get, slice_get-get_or}
use Rattle.pb_propagate.proofs.Common.{slice_get_within, IsAbsent, IsWithout, Contains, get_or-set_other, get_or_append_left, length-set, subst}
use Rattle.pb_propagate.proofs.lemmas.store.Gets.{get-set_other, get-push_less, get-push_other, get-push_same, swap-other, swap-past, swap-here, swap-length}
use Rattle.pb_propagate.specs.engine.engine.Free.{ended, HasPut, IsChain, linked, nobody}
use Rattle.std.{proofs.lemmas.List.get_or-replicate, proofs.lemmas.List.length-replicate, specs.Prelude.replicate}

abbrev pub ArePositioned : List ℕ → List ℕ → Type 0
ArePositioned list positions = (i s : ℕ) → slice_get list i ≡ Some s → slice_get positions s ≡ Some i

-- a number that is not absent has a position
pub found-at : (xs : List ℕ) (x : ℕ) → (IsAbsent xs 0 x → ⊥) → (i : ℕ) × (slice_get xs i ≡ Some x)
found-at [] x there = absurd (there (λ i from less at. omega (arith, less)))
found-at (y ∷ ys) x there = elim (cases_eq y x) [
  | inl here ↦ (0, ap (λ z. Some z) here)
  | inr other ↦ let found = found-at ys x (λ gone. there (λ i from less at. grind (arith, gone, other, at, less))) in (suc found.0, found.1)
]

pub absent-get : (xs : List ℕ) (x i : ℕ) → IsAbsent xs 0 x → slice_get xs i ≡ Some x → ⊥
absent-get xs x i gone h = gone i (omega arith) (slice_get_within xs i x h) (get_or_from_slice_get xs i x 0 h)

pub get-absent : (xs : List ℕ) (x : ℕ) → ((i : ℕ) → slice_get xs i ≡ Some x → ⊥) → IsAbsent xs 0 x
get-absent xs x none i from less at = none i (slice_get-get_or xs i 0 less ∙ ap (λ z. Some z) at)

pub positioned-put : (list positions : List ℕ) (form : ℕ) → form < length positions → IsAbsent list 0 form → ArePositioned list positions → ArePositioned (list ++ (form ∷ [])) (set positions form (length list))
positioned-put list positions form inside gone old i s h =
    grind (arith, cases_eq i (length list), cases_eq s form, get-push_other, get-push_same, get-set_at, get-set_other, old i s, absent-get list form i gone)

pub positioned-moved : (list positions : List ℕ) (q d m : ℕ) → q + 1 < length list → slice_get list (length list - 1) ≡ Some m → ArePositioned list positions → ArePositioned (swap_remove list q d) (set positions m q)
positioned-moved list positions q d m more last old i s h = grind (arith, slice_get_within, swap-here, swap-other, swap-past, get-set_at, get-set_other, cases_eq i q, cases_eq i (length list - 1), cases_eq s m)

pub positioned-last : (list positions : List ℕ) (q d : ℕ) → q + 1 ≡ length list → ArePositioned list positions → ArePositioned (swap_remove list q d) positions
positioned-last list positions q d end old i s h = grind (arith, cases_eq i q, swap-other, swap-past, old i s)

pub position-inside : (list positions : List ℕ) (form : ℕ) → (IsAbsent list 0 form → ⊥) → ArePositioned list positions → form < length positions
position-inside list positions form there old =
    let at = found-at list form there in slice_get_within positions form at.0 (old at.0 form at.1)

pub position-got : (list positions : List ℕ) (form position : ℕ) → (IsAbsent list 0 form → ⊥) → ArePositioned list positions → position ≡ get_or positions form position → slice_get list position ≡ Some form
position-got list positions form position there old is =
    let at = found-at list form there in
    let same : position ≡ at.0 = is ∙ get_or_from_slice_get positions form at.0 position (old at.0 form at.1) in
    ap (slice_get list) same ∙ at.1

-- the position that was read is where the form is on the list
pub position-is : (list positions : List ℕ) (form position i d : ℕ) → ArePositioned list positions → position ≡ get_or positions form i → i < length list → get_or list i d ≡ form → position ≡ i
position-is list positions form position i d old is less at =
    is ∙ get_or_from_slice_get positions form i i (old i form (slice_get-get_or list i d less ∙ ap (λ z. Some z) at))

-- the element that is removed is the form
pub taken-is : {X : Type 0} (list : List X) (position : ℕ) (form x : X) → slice_get list position ≡ Some form → x ≡ get_or list position x → x ≡ form
taken-is list position form x got is = is ∙ get_or_from_slice_get list position form x got

-- the last number has moved
pub moved-last : (list list' : List ℕ) (q d m : ℕ) → q < length list → list' ≡ swap_remove list q d → q < length list' → m ≡ get_or list' q m → (q + 1 < length list) × (slice_get list (length list - 1) ≡ Some m)
moved-last list list' q d m inside gone more is = grind (arith, swap-length, slice_get-get_or, swap-here, get_or_from_slice_get)

-- what is left of a list was in it at another position, and all else is left
pub swap-from : (xs : List ℕ) (q d i t : ℕ) → q < length xs → slice_get (swap_remove xs q d) i ≡ Some t → (j : ℕ) × (slice_get xs j ≡ Some t) × (j ≡ q → ⊥)
swap-from xs q d i t inside h = grind (arith, swap-other, swap-past, slice_get-get_or, swap-here, cases_eq i q, cases_eq i (length xs - 1))

pub swap-to : (xs : List ℕ) (q d j t : ℕ) → q < length xs → slice_get xs j ≡ Some t → (j ≡ q → ⊥) → (i : ℕ) × (slice_get (swap_remove xs q d) i ≡ Some t)
swap-to xs q d j t inside h other = elim (cases_eq j (length xs - 1)) [
  | inr before ↦ (j, swap-other xs q j d other before ∙ h)
  | inl end ↦ (q, grind (arith, swap-here, end))
]

-- one more number may be on the list
pub positioned-widened : (list positions positions' : List ℕ) (b : Bool) → positions' ≡ (if b then positions ++ (0 ∷ []) else positions) → ArePositioned list positions → ArePositioned list positions'
positioned-widened list positions positions' b e old i s h = grind (arith, cases_Bool b, get-push_less, slice_get_within, old i s h, e)

pub room-widened : (positions positions' : List ℕ) (b : Bool) (room : ℕ) → positions' ≡ (if b then positions ++ (0 ∷ []) else positions) → length positions + 1 ≤ room → length positions' ≤ room
room-widened positions positions' b room e less = grind (arith, cases_Bool b, length-append, e, less)

-- what is on a list with one number more, and is another one, was there before
pub push-older : (xs : List ℕ) (x i s : ℕ) → (s ≡ x → ⊥) → slice_get (xs ++ (x ∷ [])) i ≡ Some s → slice_get xs i ≡ Some s
push-older xs x i s other h = grind (arith, cases_eq i (length xs), get-push_other, get-push_same)

-- a list without one of its numbers
pub swap-without : (xs ys positions : List ℕ) (q x : ℕ) → ArePositioned xs positions → slice_get xs q ≡ Some x → ys ≡ swap_remove xs q x → IsWithout x xs ys
swap-without xs ys positions q x positioned got is = record {
  others = λ s other gone. get-absent xs s (λ i at.
      let inside = slice_get_within xs q x got in
      let to = swap-to xs q x i s inside at (λ same. other (some-one (slice_get xs i) s x at (ap (slice_get xs) same ∙ got))) in
      absent-get ys s to.0 gone (ap (λ zs. slice_get zs to.0) is ∙ to.1));
  older = λ i s at.
      let inside = slice_get_within xs q x got in
      let from = swap-from xs q x i s inside (ap (λ zs. slice_get zs i) (sym is) ∙ at) in
      (λ same. from.2 (some-one (slice_get positions s) from.0 q (positioned from.0 s from.1) (ap (slice_get positions) same ∙ positioned q x got)), from.0, from.1);
}

-- a list that does not have the number
pub same-without : (xs ys : List ℕ) (x : ℕ) → IsAbsent xs 0 x → ys ≡ xs → IsWithout x xs ys
same-without xs ys x gone is = grind (arith, absent-get)

-- ---- Lists of free slots, of which one is changed.
pub same-everywhere : (n i x : ℕ) → get_or (replicate n x) i x ≡ x
same-everywhere n i x = grind (arith, get_or-replicate n i x x, get_or_past (replicate n x) i x, length-replicate n x)

pub chain-push : (before : List ℕ) (x last : ℕ) (slots : List ℕ) → IsChain before last slots → IsChain (before ++ (x ∷ [])) last slots
chain-push before x _ _ ended = ended
chain-push before x _ _ (linked {slots} slot inside rest) =
    linked slot (omega (arith, inside, length-append before (x ∷ []))) (subst (λ n. IsChain (before ++ (x ∷ [])) n slots) (sym (get_or_append_left before (x ∷ []) nobody slot inside)) (chain-push before x _ slots rest))

-- the slot that is written is not on the list
pub chain-set : (before : List ℕ) (s x last : ℕ) (slots : List ℕ) → (Contains slots s → ⊥) → IsChain before last slots → IsChain (set before s x) last slots
chain-set before s x _ _ apart ended = ended
chain-set before s x _ _ apart (linked {slots} slot inside rest) =
    let other : slot ≡ s → ⊥ = λ is. apart (0, omega arith, is) in
    linked slot (omega (arith, inside, length-set before s x))
    (subst (λ n. IsChain (set before s x) n slots) (sym (get_or-set_other before s slot x nobody other))
    (chain-set before s x _ slots (λ c. apart (suc c.0, omega (arith, c.1), c.2)) rest))

pub free-put : (old new : Free) (size slot : ℕ) → size < length old.last → slot < length old.before → new.before ≡ set old.before slot (get_or old.last size nobody) → new.last ≡ set old.last size slot → HasPut slot size old new
free-put old new size slot listed inside befores lasts = record {
  others = λ s slots apart out h.
      rw (befores, lasts, get_or-set_other old.last size s slot nobody apart) (chain-set old.before slot (get_or old.last size nobody) (get_or old.last s nobody) slots out h);
  here = λ slots out h.
      rw (befores, lasts, get_or-set_same old.last size slot nobody listed)
      (linked {slots = slots} slot (omega (arith, inside, length-set old.before slot (get_or old.last size nobody)))
      (rw (get_or-set_same old.before slot (get_or old.last size nobody) nobody inside) (chain-set old.before slot (get_or old.last size nobody) (get_or old.last size nobody) slots out h)));
}
