-- Parts by where their items are and by the exponents of their rooms.
use Rattle.pb_propagate.specs.engine.Parts.{AreStored, IsPadded, no_span, nothing, part_in, parts_in, room_of}
use Rattle.pb_propagate.specs.declared.parts.Part.{Part}
use Rattle.pb_propagate.specs.declared.parts.Span.{Span}
use Rattle.pb_propagate.proofs.lemmas.Parts.{map-same}
use Rattle.std.proofs.Common.{arith, ℕ, suc, ◌+◌, ◌*◌, ◌^◌, ◌<◌, ◌≤◌, ◌≡◌, ◌⊎◌, ◌∙◌, ◌++◌, ◌∷◌, [], List, ap, sym, refl, inl, inr, length, map, get_or, set, length-set}
use Rattle.std.proofs.lemmas.{Bool.cases_eq, Bool.cases_lt, Nat.pow_pos}
use Rattle.std.proofs.lemmas.List.{ext_get_or, get_or_past, get_or_read, get_or-set_other, get_or-set_same}
use Rattle.std.proofs.lemmas.List.FromFn.{get_or-map-range_with_len, length-map-range_with_len, map-range_with_len_more}
use Rattle.std.proofs.Math.Nat.{pow-succ'}
use Rattle.std.proofs.Math.Pow.{pow_mono}
use Rattle.std.specs.List.{range_with_len}

-- ---- The exponent of a room.
-- With one more in the exponent the room is the next larger one.
next_room : (k : ℕ) → room_of (k + 1) ≡ 2 * room_of k + 1
next_room k =
    let e : suc k ≡ k + 1 = omega arith in
    let d : 2 ^ suc k ≡ 2 * 2 ^ k = pow-succ' 2 k in
    rw (← e, d) (omega (arith, pow_pos k))

-- The exponent of a room that fits in 32 bits is at most 32.
low_exponent : (k : ℕ) → room_of k < 2 ^ 32 → k ≤ 32
low_exponent k fits = by_case (cases_lt 32 k)
  where
    by_case : (32 < k) ⊎ (k ≤ 32) → k ≤ 32
    by_case (inl h) = let more : 2 ^ 33 ≤ 2 ^ k = pow_mono {i = 33} {j = k} h in omega (arith, more, fits)
    by_case (inr h) = h

-- ---- The part of one list.
-- Equal spans and equal exponents give equal parts.
equal_parts : (spans others : List Span) (exponents more : List ℕ) (k : ℕ) → get_or spans k no_span ≡ get_or others k no_span → get_or exponents k 0 ≡ get_or more k 0 → part_in spans exponents k ≡ part_in others more k
unfolding part_in
equal_parts spans others exponents more k e f = rw (e, f) refl

-- A part is given by its span and by the exponent of its room.
part_with : (spans : List Span) (exponents : List ℕ) (k : ℕ) (p : Part) → get_or spans k no_span ≡ record { start = p.start; len = p.len } → room_of (get_or exponents k 0) ≡ p.room → part_in spans exponents k ≡ p
unfolding part_in
part_with spans exponents k p e f = rw (e, f) refl

-- the room of a part
room_in : (spans : List Span) (exponents : List ℕ) (k : ℕ) → (part_in spans exponents k).room ≡ room_of (get_or exponents k 0)
unfolding part_in
room_in spans exponents k = refl

-- A list without a span has nothing.
nothing_past : (spans : List Span) (exponents : List ℕ) (count k : ℕ) → AreStored spans exponents count → length spans ≤ k → part_in spans exponents k ≡ nothing
nothing_past spans exponents count k stored past = part_with spans exponents k nothing (get_or_past spans k no_span past) (ap room_of (stored.past k past))

-- what is known once the part of a list is another
pub record Changed (spans : List Span) (exponents : List ℕ) (spans_new : List Span) (exponents_new : List ℕ) (list : ℕ) (p : Part) : Type 0 where
  pub here : part_in spans_new exponents_new list ≡ p
  pub others : (k : ℕ) → (k ≡ list → ⊥) → part_in spans_new exponents_new k ≡ part_in spans exponents k

-- Another span with the same room is written.
pub span_changed : (spans : List Span) (exponents : List ℕ) (list : ℕ) (p : Part) → list < length spans → p.room ≡ (part_in spans exponents list).room → Changed spans exponents (set spans list (record { start = p.start; len = p.len })) exponents list p
span_changed spans exponents list p low room = record {
  here = part_with _ exponents list p (get_or-set_same spans list _ no_span low) (sym (room ∙ room_in spans exponents list));
  others = λ k n. equal_parts _ spans exponents exponents k (get_or-set_other spans list k _ no_span n) refl;
}

-- ---- All parts.
-- There are as many parts as lists.
pub count_is : (spans : List Span) (exponents : List ℕ) (count : ℕ) {now : List Part} → parts_in spans exponents count ≡ now → length now ≡ count
count_is spans exponents count view = sym (ap length view) ∙ length-map-range_with_len (part_in spans exponents) 0 count

-- the part of a list, among all parts
pub part_is : (spans : List Span) (exponents : List ℕ) (count list : ℕ) {now : List Part} → parts_in spans exponents count ≡ now → list < length now → part_in spans exponents list ≡ get_or now list nothing
part_is spans exponents count list view low =
    sym (get_or-map-range_with_len (part_in spans exponents) 0 count list list nothing (omega (arith, low, count_is spans exponents count view)) (omega arith))
    ∙ ap (λ l. get_or l list nothing) view

-- A part that is not nothing has a span.
pub has_span : (spans : List Span) (exponents : List ℕ) (count list : ℕ) {now : List Part} → AreStored spans exponents count → parts_in spans exponents count ≡ now → list < length now → (get_or now list nothing ≡ nothing → ⊥) → list < length spans
has_span spans exponents count list {now} stored view low some = by_case (cases_lt list (length spans))
  where
    by_case : (list < length spans) ⊎ (length spans ≤ list) → list < length spans
    by_case (inl h) = h
    by_case (inr past) = absurd (some (sym (part_is spans exponents count list view low) ∙ nothing_past spans exponents count list stored past))

-- The part that was read, of a list with a span.
pub read_part : (spans : List Span) (exponents : List ℕ) (count list : ℕ) {now : List Part} (p : Part) (x : ℕ) → AreStored spans exponents count → parts_in spans exponents count ≡ now → list < length now → list < length spans → record { start = p.start; len = p.len } ≡ get_or spans list no_span → x ≡ get_or exponents list x → p.room ≡ room_of x → p ≡ get_or now list nothing
read_part spans exponents count list p x stored view low there span is room =
    sym (part_with spans exponents list p (sym span) (ap room_of (sym (get_or_read exponents list x (omega (arith, there, stored.within)) is 0)) ∙ sym room))
    ∙ part_is spans exponents count list view low

-- A list without a span has nothing among all parts.
pub read_nothing : (spans : List Span) (exponents : List ℕ) (count list : ℕ) {now : List Part} → AreStored spans exponents count → parts_in spans exponents count ≡ now → list < length now → length spans ≤ list → nothing ≡ get_or now list nothing
read_nothing spans exponents count list stored view low past = sym (nothing_past spans exponents count list stored past) ∙ part_is spans exponents count list view low

-- One value is another.
one_value : {T : Type 0} (f g : ℕ → T) (n i : ℕ) (x : T) → i < n → g i ≡ x → ((k : ℕ) → (k ≡ i → ⊥) → g k ≡ f k) → map g (range_with_len 0 n) ≡ set (map f (range_with_len 0 n)) i x
one_value f g n i x inside is h =
    ext_get_or x (map g (range_with_len 0 n)) (set (map f (range_with_len 0 n)) i x)
    (omega (arith, length-map-range_with_len g 0 n, length-map-range_with_len f 0 n, length-set (map f (range_with_len 0 n)) i x))
    (λ k low. by_case k (omega (arith, low, length-map-range_with_len g 0 n)) (cases_eq k i))
  where
    by_case : (k : ℕ) → k < n → (k ≡ i) ⊎ (k ≡ i → ⊥) → get_or (map g (range_with_len 0 n)) k x ≡ get_or (set (map f (range_with_len 0 n)) i x) k x
    by_case k low (inl e) =
        get_or-map-range_with_len g 0 n k k x low (omega arith)
        ∙ (ap g e ∙ (is
        ∙ (sym (get_or-set_same (map f (range_with_len 0 n)) i x x (omega (arith, inside, length-map-range_with_len f 0 n)))
        ∙ ap (λ j. get_or (set (map f (range_with_len 0 n)) i x) j x) (sym e))))
    by_case k low (inr other) =
        get_or-map-range_with_len g 0 n k k x low (omega arith)
        ∙ (h k other
        ∙ (sym (get_or-map-range_with_len f 0 n k k x low (omega arith))
        ∙ sym (get_or-set_other (map f (range_with_len 0 n)) i k x x other)))

-- The list of the parts, of which one is another.
pub changed_parts : (spans : List Span) (exponents : List ℕ) (spans_new : List Span) (exponents_new : List ℕ) (count list : ℕ) (p : Part) {now : List Part} → parts_in spans exponents count ≡ now → list < length now → Changed spans exponents spans_new exponents_new list p → parts_in spans_new exponents_new count ≡ set now list p
changed_parts spans exponents spans_new exponents_new count list p view low c =
    one_value (part_in spans exponents) (part_in spans_new exponents_new) count list p (omega (arith, low, count_is spans exponents count view)) c.here c.others
    ∙ ap (λ l. set l list p) view

-- There is one more list, which has nothing.
pub one_more : (spans : List Span) (exponents : List ℕ) (count : ℕ) {now : List Part} → AreStored spans exponents count → parts_in spans exponents count ≡ now → parts_in spans exponents (count + 1) ≡ now ++ nothing ∷ []
one_more spans exponents count stored view =
    map-range_with_len_more (part_in spans exponents) 0 count count (omega arith)
    ∙ (ap (λ x. parts_in spans exponents count ++ x ∷ []) (nothing_past spans exponents count count stored stored.counted) ∙ ap (λ l. l ++ nothing ∷ []) view)

-- The parts are the same if the spans and the exponents are.
pub same_parts : (spans : List Span) (exponents : List ℕ) (spans_new : List Span) (exponents_new : List ℕ) (count : ℕ) {now : List Part} → parts_in spans exponents count ≡ now → ((k : ℕ) → get_or spans_new k no_span ≡ get_or spans k no_span) → ((k : ℕ) → get_or exponents_new k 0 ≡ get_or exponents k 0) → parts_in spans_new exponents_new count ≡ now
same_parts spans exponents spans_new exponents_new count view e f =
    map-same (part_in spans_new exponents_new) (part_in spans exponents) (range_with_len 0 count) (λ j k g. equal_parts spans_new spans exponents_new exponents k (e k) (f k)) ∙ view

-- ---- Memory was added up to a list.
module _ (spans : List Span) (exponents : List ℕ) (count : ℕ) (stored : AreStored spans exponents count) (longer : List Span) (more : List ℕ) (list : ℕ)
    (spans_padded : IsPadded spans longer list no_span) (exponents_padded : IsPadded exponents more list 0) (inside : list < length more) (low : list < count) where
  -- All is stored as before.
  pub stored_padded : AreStored longer more count
  stored_padded = record { within = within spans_padded.ends; past = past; low = λ k. rw (exponents_padded.same k) (stored.low k); counted = counted spans_padded.ends }
    where
      within : (length longer ≤ length spans) ⊎ (length longer ≤ list + 1) → length longer ≤ length more
      within (inl h) = omega (arith, h, stored.within, exponents_padded.longer)
      within (inr h) = omega (arith, h, inside)

      past : (k : ℕ) → length longer ≤ k → get_or more k 0 ≡ 0
      past k h = exponents_padded.same k ∙ stored.past k (omega (arith, h, spans_padded.longer))

      counted : (length longer ≤ length spans) ⊎ (length longer ≤ list + 1) → length longer ≤ count
      counted (inl h) = omega (arith, h, stored.counted)
      counted (inr h) = omega (arith, h, low)

  -- Another span with the next larger room is written.
  pub room_changed : (p : Part) (x : ℕ) → list < length longer → x ≡ get_or more list x → p.room ≡ 2 * (part_in spans exponents list).room + 1 → Changed spans exponents (set longer list (record { start = p.start; len = p.len })) (set more list (x + 1)) list p
  room_changed p x there is room = record {
    here = part_with _ _ list p (get_or-set_same longer list _ no_span there) (ap room_of (get_or-set_same more list _ 0 inside) ∙ (next_room x ∙ sym (room ∙ ap (λ r. 2 * r + 1) same_room)));
    others = λ k n. equal_parts _ spans _ exponents k (get_or-set_other longer list k _ no_span n ∙ spans_padded.same k) (get_or-set_other more list k _ 0 n ∙ exponents_padded.same k);
  }
    where
      same_room : (part_in spans exponents list).room ≡ room_of x
      same_room = room_in spans exponents list ∙ ap room_of (sym (get_or_read more list x inside is 0 ∙ exponents_padded.same list))

  -- The exponent of the next larger room is low.
  pub next_low : (p : Part) (x : ℕ) → x ≡ get_or more list x → p.room < 2 ^ 32 → p.room ≡ 2 * (part_in spans exponents list).room + 1 → x + 1 ≤ 32
  next_low p x is fits room = low_exponent (x + 1) (omega (arith, next_room x, room, ap room_of (get_or_read more list x inside is 0 ∙ exponents_padded.same list), room_in spans exponents list, fits))

  -- All is stored with that span and that exponent.
  pub stored_changed : (s : Span) (x : ℕ) → list < length longer → x ≤ 32 → AreStored (set longer list s) (set more list x) count
  stored_changed s x there bound = let w = stored_padded in record {
    within = omega (arith, length-set longer list s, length-set more list x, w.within);
    past = λ k h. get_or-set_other more list k x 0 (λ e. omega (arith, e, h, there, length-set longer list s)) ∙ w.past k (omega (arith, h, length-set longer list s));
    low = λ k. by_case k (cases_eq k list);
    counted = omega (arith, length-set longer list s, w.counted);
  }
    where
      by_case : (k : ℕ) → (k ≡ list) ⊎ (k ≡ list → ⊥) → get_or (set more list x) k 0 ≤ 32
      by_case k (inl e) = rw (e, get_or-set_same more list x 0 inside) bound
      by_case k (inr n) = let w = stored_padded in rw (get_or-set_other more list k x 0 n) (w.low k)
