-- Many lists in one.
use Rattle.pb_propagate.specs.engine.Parts.{AreApart, AreParts, IsPart, lists_of, nothing, part_of}
use Rattle.pb_propagate.specs.declared.parts.Part.{Part}
use Rattle.std.proofs.Common.{arith, ℕ, zero, suc, ◌+◌, ◌-◌, ◌<◌, ◌≤◌, ◌≡◌, ◌⊎◌, ◌∙◌, ◌++◌, ◌∷◌, [], List, None, Option, Some, IfNone, ap, ap₂, sym, subst, refl, inl, inr, length, map, take, drop, get_or, set, length-append, append_assoc}
use Rattle.std.proofs.lemmas.{Bool.cases_eq, Bool.cases_lt, List.get_or-set_other, List.get_or-set_same, List.get_or_read, List.set-get_or, List.take-take, List.take_more_set, Option.get_or_from_slice_get, Option.same_Some, Option.slice_get-get_or, Option.slice_get_past, Option.slice_get_within}
use Rattle.std.proofs.lemmas.List.{drop-append-le, drop-set-add, drop-set-lt, get_or-drop, get_or-map, get_or-take, length-drop, length-map, length-set, length-take-le, map-set, take-append-le, take-set-le}
use Rattle.std.proofs.lemmas.List.{length-replicate, map-append}
use Rattle.std.proofs.lemmas.List.{take_all, take-replicate}
use Rattle.std.proofs.Math.Seq.{take-set-lt, drop-append_seam, take-append-add}
use Rattle.std.specs.Prelude.{replicate, slice_get, swap_remove}

-- A part is the same after a write outside of it.
pub write_outside : {T : Type 0} (items : List T) (n : ℕ) (x : T) (q : Part) → (n < q.start) ⊎ (q.start + q.len ≤ n) → part_of (set items n x) q ≡ part_of items q
write_outside items n x q (inl h) = ap (take q.len) (drop-set-lt q.start items n x h)
write_outside items n x q (inr h) =
    let m = n - q.start in
    let e : q.start + m ≡ n = omega (arith, h) in
    subst (λ k. part_of (set items k x) q ≡ part_of items q) e
    (ap (take q.len) (drop-set-add q.start items m x) ∙ take-set-le q.len (drop q.start items) m x (omega (arith, h)))

-- A write within a part.
pub write_inside : {T : Type 0} (items : List T) (k : ℕ) (x : T) (p : Part) → k < p.len → part_of (set items (p.start + k) x) p ≡ set (part_of items p) k x
write_inside items k x p h = ap (take p.len) (drop-set-add p.start items k x) ∙ take-set-lt p.len (drop p.start items) k x h

-- A part is the same with more items after all.
pub append_outside : {T : Type 0} (items more : List T) (q : Part) → IsPart (length items) q → part_of (items ++ more) q ≡ part_of items q
append_outside items more q h =
    ap (take q.len) (drop-append-le q.start items more (omega (arith, h.room, h.inside)))
    ∙ take-append-le q.len (drop q.start items) more (omega (arith, length-drop q.start items, h.room, h.inside))

pub part_length : {T : Type 0} (items : List T) (p : Part) → IsPart (length items) p → length (part_of items p) ≡ p.len
part_length items p h = length-take-le p.len (drop p.start items) (omega (arith, length-drop p.start items, h.room, h.inside))

pub part_get : {T : Type 0} (items : List T) (p : Part) (k : ℕ) (d : T) → k < p.len → get_or (part_of items p) k d ≡ get_or items (p.start + k) d
part_get items p k d h = get_or-take p.len (drop p.start items) k d h ∙ get_or-drop p.start items k d

-- Two functions give the same of all.
pub map-same : {P X : Type 0} (f g : P → X) (ps : List P) → ((j : ℕ) (q : P) → slice_get ps j ≡ Some q → f q ≡ g q) → map f ps ≡ map g ps
map-same f g [] h = refl
map-same f g (p ∷ ps) h = ap₂ (λ x xs. x ∷ xs) (h 0 p refl) (map-same f g ps (λ j q e. h (suc j) q e))

set-same : {P X : Type 0} (f g : P → X) (ps : List P) (i : ℕ) (y : X) → ((j : ℕ) (q : P) → slice_get ps j ≡ Some q → (j ≡ i → ⊥) → f q ≡ g q) → set (map f ps) i y ≡ set (map g ps) i y
set-same f g [] i y h = refl
set-same f g (p ∷ ps) zero y h = ap (λ xs. y ∷ xs) (map-same f g ps (λ j q e. h (suc j) q e (λ z. omega (arith, z))))
set-same f g (p ∷ ps) (suc i) y h =
    ap₂ (λ x xs. x ∷ xs) (h 0 p refl (λ z. omega (arith, z))) (set-same f g ps i y (λ j q e n. h (suc j) q e (λ z. n (omega (arith, z)))))

-- One list is another.
pub one_list : {T : Type 0} (items new : List T) (parts : List Part) (i : ℕ) (p : Part) → ((j : ℕ) (q : Part) → slice_get parts j ≡ Some q → (j ≡ i → ⊥) → part_of new q ≡ part_of items q)
    → lists_of new (set parts i p) ≡ set (lists_of items parts) i (part_of new p)
one_list items new parts i p h = map-set (part_of new) parts i p ∙ set-same (part_of new) (part_of items) parts i (part_of new p) h

-- what a part that was moved has
pub moved_part : {T : Type 0} (items copied new : List T) (p to : Part) (x : T) (n : ℕ) → IsPart (length items) p → copied ≡ items ++ part_of items p → new ≡ take n copied ++ replicate (n - length copied) x
    → n ≡ length items + to.room → to.len ≡ p.len + 1 → to.len ≤ to.room → to.start ≡ length items → IsPart (length new) to × (part_of new to ≡ part_of items p ++ x ∷ [])
moved_part items copied new p to x n within copy grown ends len room start =
    let long : length copied ≡ length items + p.len = ap length copy ∙ (length-append items (part_of items p) ∙ ap (λ k. length items + k) (part_length items p within)) in
    let is : new ≡ (items ++ part_of items p) ++ replicate (n - length copied) x = grown ∙ ap (λ l. l ++ replicate (n - length copied) x) (take_all n copied (omega (arith, long, ends, len, room)) ∙ copy) in (
      record {
        room = room;
        inside = omega (arith, ap length is, length-append (items ++ part_of items p) (replicate (n - length copied) x), length-append items (part_of items p), part_length items p within, length-replicate (n - length copied) x, long, ends, len, room, start);
      },
      ap₂ (λ k m. take k (drop m new)) len start
          ∙ (ap (λ l. take (p.len + 1) (drop (length items) l)) (is ∙ append_assoc items (part_of items p) (replicate (n - length copied) x))
          ∙ (ap (take (p.len + 1)) (drop-append_seam items (part_of items p ++ replicate (n - length copied) x))
          ∙ (ap (λ k. take (k + 1) (part_of items p ++ replicate (n - length copied) x)) (sym (part_length items p within))
          ∙ (take-append-add (part_of items p) (replicate (n - length copied) x) 1
          ∙ ap (λ l. part_of items p ++ l) (take-replicate 1 (n - length copied) x (omega (arith, long, ends, len, room))))))),
    )

turned : (p q : Part) → AreApart p q → AreApart q p
turned p q (inl a) = inr a
turned p q (inr a) = inl a

-- More items leave all parts as they are.
pub longer_parts : {T : Type 0} (items more : List T) (parts : List Part) → AreParts (length items) parts → AreParts (length (items ++ more)) parts × (lists_of (items ++ more) parts ≡ lists_of items parts)
longer_parts items more parts are = (
  record {
    each = λ i p e. let w = are.each i p e in record { room = w.room; inside = omega (arith, w.inside, length-append items more) };
    apart = are.apart;
  },
  map-same (part_of (items ++ more)) (part_of items) parts (λ j q e. append_outside items more q (are.each j q e)),
)

get-set_at : {X : Type 0} (xs : List X) (j k : ℕ) (y : X) → k ≡ j → j < length xs → slice_get (set xs j y) k ≡ Some y
get-set_at xs j k y e h = rw e (slice_get-get_or (set xs j y) j y (omega (arith, length-set xs j y, h)) ∙ ap (λ x. Some x) (get_or-set_same xs j y y h))

get-set_other : {X : Type 0} (xs : List X) (j k : ℕ) (y : X) → (k ≡ j → ⊥) → slice_get (set xs j y) k ≡ slice_get xs k
get-set_other xs j k y n = grind (arith, cases_lt k (length xs), slice_get-get_or (set xs j y) k y, slice_get-get_or xs k y, slice_get_past, get_or-set_other, length-set)

-- The lists after one part has changed, which is the one at i.
module _ {T : Type 0} (items : List T) (parts : List Part) (i : ℕ) (p : Part) (are : AreParts (length items) parts) (here : slice_get parts i ≡ Some p) where
  within : IsPart (length items) p
  within = are.each i p here

  pub list_is : get_or (lists_of items parts) i [] ≡ part_of items p
  list_is = get_or-map (part_of items) parts i p [] (slice_get_within parts i p here) ∙ ap (part_of items) (get_or_from_slice_get parts i p p here)

  same_parts : set parts i p ≡ parts
  same_parts = ap (set parts i) (sym (get_or_from_slice_get parts i p p here)) ∙ set-get_or parts i p

  outside : (k : ℕ) → k < p.room → (q : Part) → IsPart (length items) q → AreApart p q → (p.start + k < q.start) ⊎ (q.start + q.len ≤ p.start + k)
  outside k h q in_items (inl a) = inl (omega (arith, a, h))
  outside k h q in_items (inr a) = inr (omega (arith, a, in_items.room))

  -- the others, after a write for which the part has memory
  others : (k : ℕ) (x : T) → k < p.room → (j : ℕ) (q : Part) → slice_get parts j ≡ Some q → (j ≡ i → ⊥) → part_of (set items (p.start + k) x) q ≡ part_of items q
  others k x h j q e n = write_outside items (p.start + k) x q (outside k h q (are.each j q e) (are.apart i j p q here e (λ z. n (sym z))))

  written : (k : ℕ) (x : T) (new : Part) → k < p.room → lists_of (set items (p.start + k) x) (set parts i new) ≡ set (lists_of items parts) i (part_of (set items (p.start + k) x) new)
  written k x new h = one_list items (set items (p.start + k) x) parts i new (others k x h)

  -- An item is another.
  pub set_item : (k : ℕ) (x : T) → k < p.len → lists_of (set items (p.start + k) x) parts ≡ set (lists_of items parts) i (set (get_or (lists_of items parts) i []) k x)
  set_item k x h =
      ap (lists_of (set items (p.start + k) x)) (sym same_parts)
      ∙ (written k x p (omega (arith, h, within.room))
      ∙ ap (set (lists_of items parts) i) (write_inside items k x p h ∙ ap (λ l. set l k x) (sym list_is)))

  -- There is one more item, for which the part has memory.
  pub more_item : (x : T) (new : Part) → p.len < p.room → new.start ≡ p.start → new.len ≡ p.len + 1 → lists_of (set items (p.start + p.len) x) (set parts i new) ≡ set (lists_of items parts) i (get_or (lists_of items parts) i [] ++ x ∷ [])
  more_item x new h e f =
      written p.len x new h
      ∙ ap (set (lists_of items parts) i)
      (ap₂ (λ n m. take n (drop m (set items (p.start + p.len) x))) f e
      ∙ (ap (take (p.len + 1)) (drop-set-add p.start items p.len x)
      ∙ (take_more_set (drop p.start items) p.len x (omega (arith, length-drop p.start items, h, within.inside)) ∙ ap (λ l. l ++ x ∷ []) (sym list_is))))

  -- One item is removed, and the last one is at its position.
  pub without_item : (k : ℕ) (x d : T) (new : Part) → k < p.len → x ≡ get_or items (p.start + (p.len - 1)) x → new.start ≡ p.start → new.len ≡ p.len - 1 → lists_of (set items (p.start + k) x) (set parts i new) ≡ set (lists_of items parts) i (swap_remove (get_or (lists_of items parts) i []) k d)
  without_item k x d new h last e f =
      written k x new (omega (arith, h, within.room))
      ∙ ap (set (lists_of items parts) i)
      (ap₂ (λ n m. take n (drop m (set items (p.start + k) x))) f e
      ∙ (sym (take-take (p.len - 1) p.len (drop p.start (set items (p.start + k) x)) (omega (arith, h)))
      ∙ (ap (take (p.len - 1)) (write_inside items k x p h)
      ∙ swapped)))
    where
      swapped : take (p.len - 1) (set (part_of items p) k x) ≡ swap_remove (get_or (lists_of items parts) i []) k d
      swapped =
          ap₂ (λ n y. take (n - 1) (set (part_of items p) k y)) (sym (part_length items p within)) (sym last_is)
          ∙ ap (λ l. swap_remove l k d) (sym list_is)
        where
          last_is : get_or (part_of items p) (length (part_of items p) - 1) d ≡ x
          last_is =
              ap (λ n. get_or (part_of items p) (n - 1) d) (part_length items p within)
              ∙ (part_get items p (p.len - 1) d (omega (arith, h)) ∙ sym (get_or_read items (p.start + (p.len - 1)) x (omega (arith, h, within.room, within.inside)) last d))

  -- The list is moved, with one more item.
  pub moved_list : (more : List T) (new : Part) (x : T) → part_of (items ++ more) new ≡ part_of items p ++ x ∷ [] → lists_of (items ++ more) (set parts i new) ≡ set (lists_of items parts) i (get_or (lists_of items parts) i [] ++ x ∷ [])
  moved_list more new x e =
      one_list items (items ++ more) parts i new (λ j q g n. append_outside items more q (are.each j q g))
      ∙ ap (set (lists_of items parts) i) (e ∙ ap (λ l. l ++ x ∷ []) (sym list_is))

  like : (new q : Part) → new.start ≡ p.start → new.room ≡ p.room → AreApart p q → AreApart new q
  like new q e g (inl a) = inl (omega (arith, a, e, g))
  like new q e g (inr a) = inr (omega (arith, a, e))

  found : (new : Part) (j : ℕ) (q : Part) → slice_get (set parts i new) j ≡ Some q → ((j ≡ i) × (q ≡ new)) ⊎ ((j ≡ i → ⊥) × (slice_get parts j ≡ Some q))
  found new j q e = by_case (cases_eq j i)
    where
      by_case : (j ≡ i) ⊎ (j ≡ i → ⊥) → ((j ≡ i) × (q ≡ new)) ⊎ ((j ≡ i → ⊥) × (slice_get parts j ≡ Some q))
      by_case (inl z) = inl (z, same_Some q new (sym e ∙ get-set_at parts i j new z (slice_get_within parts i p here)))
      by_case (inr n) = inr (n, sym (get-set_other parts i j new n) ∙ e)

  -- The parts are apart if the new one is apart from the others.
  pub changed : (size : ℕ) (new : Part) → length items ≤ size → IsPart size new → ((q : Part) → IsPart (length items) q → AreApart p q → AreApart new q) → AreParts size (set parts i new)
  changed size new le fits apart = record { each = λ j q e. each j q (found new j q e); apart = λ j k q r e f n. both j k q r n (found new j q e) (found new k r f) }
    where
      each : (j : ℕ) (q : Part) → ((j ≡ i) × (q ≡ new)) ⊎ ((j ≡ i → ⊥) × (slice_get parts j ≡ Some q)) → IsPart size q
      each j q (inl (z, s)) = subst (IsPart size) (sym s) fits
      each j q (inr (n, g)) = let w = are.each j q g in record { room = w.room; inside = omega (arith, w.inside, le) }

      far : (k : ℕ) (r : Part) → (k ≡ i → ⊥) → slice_get parts k ≡ Some r → AreApart new r
      far k r n g = apart r (are.each k r g) (are.apart i k p r here g (λ z. n (sym z)))

      both : (j k : ℕ) (q r : Part) → (j ≡ k → ⊥) → ((j ≡ i) × (q ≡ new)) ⊎ ((j ≡ i → ⊥) × (slice_get parts j ≡ Some q)) → ((k ≡ i) × (r ≡ new)) ⊎ ((k ≡ i → ⊥) × (slice_get parts k ≡ Some r)) → AreApart q r
      both j k q r n (inl (z, s)) (inl (y, t)) = absurd (n (z ∙ sym y))
      both j k q r n (inl (z, s)) (inr (m, g)) = subst (λ a. AreApart a r) (sym s) (far k r m g)
      both j k q r n (inr (m, g)) (inl (y, t)) = subst (λ a. AreApart q a) (sym t) (turned new q (far j q m g))
      both j k q r n (inr (m, g)) (inr (l, h)) = are.apart j k q r g h n

  pub more_parts : (new : Part) → p.len < p.room → new.start ≡ p.start → new.len ≡ p.len + 1 → new.room ≡ p.room → AreParts (length items) (set parts i new)
  more_parts new h e f g = changed (length items) new (omega arith) (record { room = omega (arith, h, f, g); inside = omega (arith, within.inside, e, g) }) (λ q w a. like new q e g a)

  pub fewer_parts : (new : Part) → new.start ≡ p.start → new.len ≡ p.len - 1 → new.room ≡ p.room → AreParts (length items) (set parts i new)
  fewer_parts new e f g = changed (length items) new (omega arith) (record { room = omega (arith, within.room, f, g); inside = omega (arith, within.inside, e, g) }) (λ q w a. like new q e g a)

  pub moved_parts : (size : ℕ) (new : Part) → length items ≤ size → IsPart size new → new.start ≡ length items → AreParts size (set parts i new)
  moved_parts size new le fits e = changed size new le fits (λ q w a. inr (omega (arith, w.inside, e)))

-- ---- The part of a list.
-- One more list, which is empty.
pub lists-next : {T : Type 0} (items : List T) (parts : List Part) {now : List (List T)} → lists_of items parts ≡ now → lists_of items (parts ++ nothing ∷ []) ≡ now ++ [] ∷ []
lists-next items parts view = map-append (part_of items) parts (nothing ∷ []) ∙ ap (λ l. l ++ [] ∷ []) view

-- A part after one more is one of the others, or nothing.
next-part : (parts : List Part) (i : ℕ) (p : Part) → slice_get (parts ++ nothing ∷ []) i ≡ Some p → (slice_get parts i ≡ Some p) ⊎ (p ≡ nothing)
next-part [] zero p e = inr (sym (same_Some nothing p e))
next-part [] (suc i) p e = inl e
next-part (q ∷ parts) zero p e = inl e
next-part (q ∷ parts) (suc i) p e = next-part parts i p e

-- The parts with that of one more list, which is empty.
pub parts-next : (size : ℕ) (parts : List Part) → AreParts size parts → AreParts size (parts ++ nothing ∷ [])
parts-next size parts are = record {
  each = λ i p e. each i p (next-part parts i p e);
  apart = λ i j p q e f m. both i j p q m (next-part parts i p e) (next-part parts j q f);
}
  where
    each : (i : ℕ) (p : Part) → (slice_get parts i ≡ Some p) ⊎ (p ≡ nothing) → IsPart size p
    each i p (inl g) = are.each i p g
    each i p (inr z) = subst (IsPart size) (sym z) (record { room = omega arith; inside = omega arith })

    both : (i j : ℕ) (p q : Part) → (i ≡ j → ⊥) → (slice_get parts i ≡ Some p) ⊎ (p ≡ nothing) → (slice_get parts j ≡ Some q) ⊎ (q ≡ nothing) → AreApart p q
    both i j p q m (inl g) (inl f) = are.apart i j p q g f m
    both i j p q m (inl g) (inr z) = subst (λ a. AreApart p a) (sym z) (inr (omega arith))
    both i j p q m (inr z) f = subst (λ a. AreApart a q) (sym z) (inl (omega arith))

-- There is no part.
pub no_parts : (size : ℕ) → AreParts size []
no_parts size = record { each = λ i p e. absurd (none i p e); apart = λ i j p q e f m. absurd (none i p e) }
  where
    none : (i : ℕ) (p : Part) → slice_get [] i ≡ Some p → ⊥
    none i p e = omega (arith, slice_get_within [] i p e)

-- There are as many parts as lists.
pub part_count : {T : Type 0} (items : List T) (parts : List Part) {now : List (List T)} → lists_of items parts ≡ now → length now ≡ length parts
part_count items parts view = sym (ap length view) ∙ length-map parts (part_of items)

-- what is known of a list by its part
pub record Reads {T : Type 0} (items : List T) (parts : List Part) (now : List (List T)) (i : ℕ) (p : Part) : Type 0 where
  pub part : slice_get parts i ≡ Some p
  pub items_are : get_or now i [] ≡ part_of items p
  pub count : length (get_or now i []) ≡ p.len
  pub within : IsPart (length items) p
  pub ends : p.start + p.len ≤ length items

-- A list is read by its part.
pub reads : {T : Type 0} (items : List T) (parts : List Part) {now : List (List T)} (i : ℕ) (p : Part) → AreParts (length items) parts → lists_of items parts ≡ now → i < length now → p ≡ get_or parts i nothing → Reads items parts now i p
reads items parts {now} i p are view inside is = record { part = part; items_are = items_are; count = ap length items_are ∙ part_length items p (are.each i p part); within = are.each i p part; ends = let w = are.each i p part in omega (arith, w.room, w.inside) }
  where
    part : slice_get parts i ≡ Some p
    part = slice_get-get_or parts i nothing (omega (arith, inside, part_count items parts view)) ∙ ap (λ x. Some x) (sym is)

    items_are : get_or now i [] ≡ part_of items p
    items_are = ap (λ l. get_or l i []) (sym view) ∙ list_is items parts i p are part

-- An item of a list that was read.
pub read_item : {T : Type 0} (items : List T) (parts : List Part) {now : List (List T)} (i : ℕ) (p : Part) (k : ℕ) (x : T) → Reads items parts now i p → k < length (get_or now i []) → x ≡ get_or items (p.start + k) x → (d : T) → x ≡ get_or (get_or now i []) k d
read_item items parts {now} i p k x r h is d =
    get_or_read items (p.start + k) x (omega (arith, h, r.count, r.ends)) is d
    ∙ (sym (part_get items p k d (omega (arith, h, r.count))) ∙ ap (λ l. get_or l k d) (sym r.items_are))

-- what follows from what a clause says if there is no value
pub none-then : {T : Type 0} {P Q : Type 0} (r : Option T) → IfNone r P → (P → Q) → IfNone r Q
none-then None p f = f p
none-then (Some x) p f = tt

-- A part with memory is not nothing.
pub has_room : (parts : List Part) (i : ℕ) (p : Part) → p ≡ get_or parts i nothing → 0 < p.room → get_or parts i nothing ≡ nothing → ⊥
has_room parts i p is room none = omega (arith, room, ap (λ (x : Part). x.room) (is ∙ none))
