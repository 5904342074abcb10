-- Lists in pages.
use Rattle.pb_propagate.specs.engine.Columns.{absent, AreEmptyFrom, ArePages, nowhere, start_of, value_at, values_of}
use Rattle.std.proofs.Common.{arith, ℕ, ◌+◌, ◌-◌, ◌*◌, ◌/◌, ◌%◌, ◌^◌, ◌<◌, ◌≤◌, ◌≡◌, ◌⊎◌, ◌∙◌, ◌++◌, ◌∷◌, [], List, ap, sym, subst, refl, inl, inr, length, map, take, get_or, set, length-append, length-set}
use Rattle.std.proofs.lemmas.{Bool.cases_eq, Bool.cases_lt}
use Rattle.std.proofs.lemmas.List.{ext_get_or, get_or-append-add, get_or_append_left, get_or_default, get_or_past, get_or_read, get_or-replicate, get_or-set_other, get_or-set_same, length-replicate, take-set-le}
use Rattle.std.proofs.lemmas.List.FromFn.{get_or-map-range_with_len, length-map-range_with_len, map-range_with_len_more, take-map-range_with_len}
use Rattle.std.proofs.lemmas.List.Sums.{get_or-le-sum_by, sum_by-set}
use Rattle.std.proofs.Math.Seq.{set-append_seam}
use Rattle.std.specs.List.{range_with_len}
use Rattle.std.specs.Prelude.{if◌then◌else◌, is_ok, Err, Ok, OnErr, OnOk, replicate, Result, sum_by}

-- ---- Lists that are made from functions.
-- the values, if each is the same
same_values : {T : Type 0} (f g : ℕ → T) (n : ℕ) (d : T) → ((k : ℕ) → g k ≡ f k) → map g (range_with_len 0 n) ≡ map f (range_with_len 0 n)
same_values f g n d h =
    ext_get_or d (map g (range_with_len 0 n)) (map f (range_with_len 0 n)) (length-map-range_with_len g 0 n ∙ sym (length-map-range_with_len f 0 n))
    (λ k low. by_index k (omega (arith, low, length-map-range_with_len g 0 n)))
  where
    by_index : (k : ℕ) → k < n → get_or (map g (range_with_len 0 n)) k d ≡ get_or (map f (range_with_len 0 n)) k d
    by_index k low =
        get_or-map-range_with_len g 0 n k k d low (omega arith)
        ∙ (h k ∙ sym (get_or-map-range_with_len f 0 n k k d low (omega arith)))

-- the values, if one is another
one_value : {T : Type 0} (f g : ℕ → T) (n i : ℕ) (x : T) → i < n → g i ≡ x → ((k : ℕ) → (k ≡ i → ⊥) → g k ≡ f k) → map g (range_with_len 0 n) ≡ set (map f (range_with_len 0 n)) i x
one_value f g n i x inside is h =
    ext_get_or x (map g (range_with_len 0 n)) (set (map f (range_with_len 0 n)) i x)
    (omega (arith, length-map-range_with_len g 0 n, length-map-range_with_len f 0 n, length-set (map f (range_with_len 0 n)) i x))
    (λ k low. by_case k (omega (arith, low, length-map-range_with_len g 0 n)) (cases_eq k i))
  where
    by_case : (k : ℕ) → k < n → (k ≡ i) ⊎ (k ≡ i → ⊥) → get_or (map g (range_with_len 0 n)) k x ≡ get_or (set (map f (range_with_len 0 n)) i x) k x
    by_case k low (inl e) =
        get_or-map-range_with_len g 0 n k k x low (omega arith)
        ∙ (ap g e ∙ (is
        ∙ (sym (get_or-set_same (map f (range_with_len 0 n)) i x x (omega (arith, inside, length-map-range_with_len f 0 n)))
        ∙ ap (λ j. get_or (set (map f (range_with_len 0 n)) i x) j x) (sym e))))
    by_case k low (inr other) =
        get_or-map-range_with_len g 0 n k k x low (omega arith)
        ∙ (h k other
        ∙ (sym (get_or-map-range_with_len f 0 n k k x low (omega arith))
        ∙ sym (get_or-set_other (map f (range_with_len 0 n)) i k x x other)))

-- More items that are the default change no value.
get_or-filled : {X : Type 0} (xs : List X) (n i : ℕ) (d : X) → get_or (xs ++ replicate n d) i d ≡ get_or xs i d
get_or-filled xs n i d = by_case (cases_lt i (length xs))
  where
    filled : (k : ℕ) → (k < n) ⊎ (n ≤ k) → get_or (replicate n d) k d ≡ d
    filled k (inl low) = get_or-replicate n k d d low
    filled k (inr past) = get_or_past (replicate n d) k d (omega (arith, past, length-replicate n d))

    by_case : (i < length xs) ⊎ (length xs ≤ i) → get_or (xs ++ replicate n d) i d ≡ get_or xs i d
    by_case (inl low) = get_or_append_left xs (replicate n d) d i low
    by_case (inr past) =
        let k = i - length xs in
        let e : length xs + k ≡ i = omega (arith, past) in
        subst (λ j. get_or (xs ++ replicate n d) j d ≡ get_or xs i d) e
        (get_or-append-add xs (replicate n d) k d ∙ (filled k (cases_lt k n) ∙ sym (get_or_past xs i d past)))

pub count_is : {T : Type 0} (d : T) (pages : List ℕ) (items : List T) (count : ℕ) {now : List T} → values_of d pages items count ≡ now → length now ≡ count
count_is d pages items count view = sym (ap length view) ∙ length-map-range_with_len (value_at d pages items) 0 count

-- ---- Pages.
module _ {T : Type 0} (d : T) (pages : List ℕ) (items : List T) (capacity : ℕ) (are : ArePages pages (length items) capacity) (small : capacity < 2 ^ 63) where
  -- Two indices have different positions, if the page of one is stored.
  apart : (i k : ℕ) → (start_of pages (i / 64) ≡ nowhere → ⊥) → (k ≡ i → ⊥) → (start_of pages (k / 64) + k % 64 ≡ start_of pages (i / 64) + i % 64) → ⊥
  apart i k stored other same = by_page (cases_eq (i / 64) (k / 64))
    where
      within : start_of pages (i / 64) + 64 ≤ length items
      within = are.each (i / 64) stored

      between : (start_of pages (i / 64) + 64 ≤ start_of pages (k / 64)) ⊎ (start_of pages (k / 64) + 64 ≤ start_of pages (i / 64)) → ⊥
      between (inl after) = omega (arith, after, same)
      between (inr before) = omega (arith, before, same)

      by_store : (i / 64 ≡ k / 64 → ⊥) → (start_of pages (k / 64) ≡ nowhere) ⊎ (start_of pages (k / 64) ≡ nowhere → ⊥) → ⊥
      by_store n (inl none) = omega (arith, none, same, within, are.room, are.memory, small)
      by_store n (inr some) = between (are.apart (i / 64) (k / 64) n stored some)

      by_page : (i / 64 ≡ k / 64) ⊎ (i / 64 ≡ k / 64 → ⊥) → ⊥
      by_page (inl e) = other (omega (arith, same, e, ap (start_of pages) e))
      by_page (inr n) = by_store n (cases_eq (start_of pages (k / 64)) nowhere)

  -- A value of a page that is stored is another.
  written : (index count : ℕ) (x : T) → (start_of pages (index / 64) ≡ nowhere → ⊥) → index < count
      → values_of d pages (set items (start_of pages (index / 64) + index % 64) x) count ≡ set (values_of d pages items count) index x
  unfolding value_at
  written index count x stored inside =
      let at = start_of pages (index / 64) + index % 64 in
      one_value (value_at d pages items) (value_at d pages (set items at x)) count index x inside
      (get_or-set_same items at x d (omega (arith, are.each (index / 64) stored)))
      (λ k other. get_or-set_other items at (start_of pages (k / 64) + k % 64) x d (apart index k stored other))

  -- A value of a page that is not stored.
  pub empty_value : (index : ℕ) → start_of pages (index / 64) ≡ nowhere → value_at d pages items index ≡ d
  unfolding value_at
  empty_value index none = get_or_past items (start_of pages (index / 64) + index % 64) d (omega (arith, none, are.room, are.memory, small))

  -- A page is stored after all others.
  module _ (page : ℕ) (low : page < length pages) (none : start_of pages page ≡ nowhere) where
    one_absent : 1 ≤ sum_by absent pages
    one_absent = omega (arith, get_or-le-sum_by absent pages page nowhere low, ap absent none)

    new_start : start_of (set pages page (length items)) page ≡ length items
    new_start = get_or-set_same pages page (length items) nowhere low

    other_start : (p : ℕ) → (p ≡ page → ⊥) → start_of (set pages page (length items)) p ≡ start_of pages p
    other_start p n = get_or-set_other pages page p (length items) nowhere n

    -- There is memory for the page.
    stored_size : length items + 64 ≤ 64 * length pages
    stored_size = omega (arith, one_absent, are.room)

    stored_value : (k : ℕ) → value_at d (set pages page (length items)) (items ++ replicate 64 d) k ≡ value_at d pages items k
    unfolding value_at
    stored_value k = by_page (cases_eq (k / 64) page)
      where
        by_page : (k / 64 ≡ page) ⊎ (k / 64 ≡ page → ⊥) → value_at d (set pages page (length items)) (items ++ replicate 64 d) k ≡ value_at d pages items k
        by_page (inl e) =
            get_or-filled items 64 (start_of (set pages page (length items)) (k / 64) + k % 64) d
            ∙ (get_or_past items (start_of (set pages page (length items)) (k / 64) + k % 64) d (omega (arith, ap (start_of (set pages page (length items))) e, new_start))
            ∙ sym (empty_value k (ap (start_of pages) e ∙ none)))
        by_page (inr n) =
            get_or-filled items 64 (start_of (set pages page (length items)) (k / 64) + k % 64) d
            ∙ ap (λ s. get_or items (s + k % 64) d) (other_start (k / 64) n)

    stored_pages : ArePages (set pages page (length items)) (length items + 64) capacity
    stored_pages =
        record {
          each = λ p s. each p s (cases_eq p page);
          apart = λ a b n s t. both a b n s t (cases_eq a page) (cases_eq b page);
          room = omega (arith, are.room, length-set pages page (length items), sum_by-set absent pages page (length items) nowhere low, ap absent none, absent-new);
          memory = omega (arith, are.memory, length-set pages page (length items));
        }
      where
        new : List ℕ
        new = set pages page (length items)

        absent-new : absent (length items) ≡ 0
        absent-new = grind (arith, are.room, one_absent, are.memory, small)

        each : (p : ℕ) → (start_of new p ≡ nowhere → ⊥) → (p ≡ page) ⊎ (p ≡ page → ⊥) → start_of new p + 64 ≤ length items + 64
        each p s (inl e) = omega (arith, new_start, ap (start_of new) e)
        each p s (inr n) = omega (arith, other_start p n, are.each p (λ z. s (other_start p n ∙ z)))

        both : (a b : ℕ) → (a ≡ b → ⊥) → (start_of new a ≡ nowhere → ⊥) → (start_of new b ≡ nowhere → ⊥) → (a ≡ page) ⊎ (a ≡ page → ⊥) → (b ≡ page) ⊎ (b ≡ page → ⊥)
            → (start_of new a + 64 ≤ start_of new b) ⊎ (start_of new b + 64 ≤ start_of new a)
        both a b n s t (inl e) (inl f) = absurd (n (e ∙ sym f))
        both a b n s t (inl e) (inr f) = inr (omega (arith, new_start, ap (start_of new) e, other_start b f, are.each b (λ z. t (other_start b f ∙ z))))
        both a b n s t (inr e) (inl f) = inl (omega (arith, new_start, ap (start_of new) f, other_start a e, are.each a (λ z. s (other_start a e ∙ z))))
        both a b n s t (inr e) (inr f) = turned (are.apart a b n (λ z. s (other_start a e ∙ z)) (λ z. t (other_start b f ∙ z)))
          where
            turned : (start_of pages a + 64 ≤ start_of pages b) ⊎ (start_of pages b + 64 ≤ start_of pages a) → (start_of new a + 64 ≤ start_of new b) ⊎ (start_of new b + 64 ≤ start_of new a)
            turned (inl g) = inl (omega (arith, g, other_start a e, other_start b f))
            turned (inr g) = inr (omega (arith, g, other_start a e, other_start b f))

  -- There is one more page, which is not stored.
  more_start : (p : ℕ) → start_of (pages ++ nowhere ∷ []) p ≡ start_of pages p
  more_start p = get_or-filled pages 1 p nowhere

  pub more_values : (count : ℕ) → values_of d (pages ++ nowhere ∷ []) items count ≡ values_of d pages items count
  unfolding value_at
  more_values count = same_values (value_at d pages items) (value_at d (pages ++ nowhere ∷ []) items) count d (λ k. ap (λ s. get_or items (s + k % 64) d) (more_start (k / 64)))

-- A value of a page that is not stored is another, once the page is stored.
pub stored_write : {T : Type 0} (d : T) (pages : List ℕ) (items new : List T) (capacity index start : ℕ) (x : T) → ArePages pages (length items) capacity → capacity < 2 ^ 63 → index < 64 * length pages → start_of pages (index / 64) ≡ nowhere → new ≡ items ++ replicate 64 d → start ≡ length items → (count : ℕ) → index < count
    → values_of d (set pages (index / 64) start) (set new (start + index % 64) x) count ≡ set (values_of d pages items count) index x
stored_write d pages items new capacity index start x are small inside none is begins count low =
    let page = index / 64 in
    let here : page < length pages = omega (arith, inside) in
    let more = items ++ replicate 64 d in
    let long : length more ≡ length items + 64 = length-append items (replicate 64 d) ∙ ap (λ n. length items + n) (length-replicate 64 d) in
    let after = set pages page (length items) in
    let starts : start_of after page ≡ length items = get_or-set_same pages page (length items) nowhere here in
    let stored : (start_of after page ≡ nowhere → ⊥) = λ z. omega (arith, z, starts, stored_size d pages items capacity are small page here none, are.memory, small) in
    let fits : ArePages after (length more) capacity = subst (λ n. ArePages after n capacity) (sym long) (stored_pages d pages items capacity are small page here none) in
    rw (is, begins)
    (ap (λ s. values_of d after (set more (s + index % 64) x) count) (sym starts)
    ∙ (written d after more capacity fits small index count x stored low
    ∙ ap (λ l. set l index x) (same_values (value_at d pages items) (value_at d after more) count d (stored_value d pages items capacity are small page here none))))

-- The start of the page of an index, which was read.
pub read_start : (pages : List ℕ) (index start : ℕ) → index < 64 * length pages → start ≡ get_or pages (index / 64) start → start ≡ start_of pages (index / 64)
read_start pages index start inside is = get_or_read pages (index / 64) start (omega (arith, inside)) is nowhere

pub slice_start : (pages : List ℕ) (index : ℕ) → index < 64 * length pages → get_or pages (index / 64) 0 ≡ start_of pages (index / 64)
slice_start pages index inside = get_or_default pages (index / 64) 0 nowhere (omega (arith, inside))

-- A value of a page that is stored is another.
pub one_write : {T : Type 0} (d : T) (pages : List ℕ) (items : List T) (capacity index start : ℕ) (x : T) → ArePages pages (length items) capacity → capacity < 2 ^ 63 → start ≡ start_of pages (index / 64) → (start ≡ nowhere → ⊥) → (count : ℕ) → index < count
    → values_of d pages (set items (start + index % 64) x) count ≡ set (values_of d pages items count) index x
one_write d pages items capacity index start x are small is stored count low =
    rw is (written d pages items capacity are small index count x (λ z. stored (is ∙ z)) low)

-- A value of a page that is not stored is empty.
pub no_write : {T : Type 0} (d : T) (pages : List ℕ) (items : List T) (capacity index start : ℕ) → ArePages pages (length items) capacity → capacity < 2 ^ 63 → start ≡ start_of pages (index / 64) → start ≡ nowhere → (count : ℕ) → index < count
    → values_of d pages items count ≡ set (values_of d pages items count) index d
no_write d pages items capacity index start are small is none count low =
    one_value (value_at d pages items) (value_at d pages items) count index d low (empty_value d pages items capacity are small index (sym is ∙ none)) (λ k other. refl)

-- A value that was read.
pub read_value : {T : Type 0} (d : T) (pages : List ℕ) (items : List T) (count : ℕ) {now : List T} (index : ℕ) → values_of d pages items count ≡ now → index < length now → (e : T) → value_at d pages items index ≡ get_or now index e
read_value d pages items count index view low e =
    sym (get_or-map-range_with_len (value_at d pages items) 0 count index index e (omega (arith, low, count_is d pages items count view)) (omega arith))
    ∙ ap (λ l. get_or l index e) view

pub read_stored : {T : Type 0} (d : T) (pages : List ℕ) (items : List T) (count : ℕ) {now : List T} (index start : ℕ) (x : T) → values_of d pages items count ≡ now → index < length now → start ≡ start_of pages (index / 64) → start + 64 ≤ length items → x ≡ get_or items (start + index % 64) x → (e : T) → x ≡ get_or now index e
unfolding value_at
read_stored d pages items count index start x view low begins within is e =
    get_or_read items (start + index % 64) x (omega (arith, within)) is d
    ∙ (ap (λ s. get_or items (s + index % 64) d) begins ∙ read_value d pages items count index view low e)

-- A stored value, as it is among the items.
pub stored_value_at : {T : Type 0} (d : T) (pages : List ℕ) (items : List T) (index start : ℕ) (x : T) → start ≡ start_of pages (index / 64) → start + index % 64 < length items → x ≡ get_or items (start + index % 64) x → x ≡ value_at d pages items index
unfolding value_at
stored_value_at d pages items index start x begins within is = get_or_read items (start + index % 64) x within is d ∙ ap (λ s. get_or items (s + index % 64) d) begins

pub read_empty : {T : Type 0} (d : T) (pages : List ℕ) (items : List T) (capacity count : ℕ) {now : List T} (index start : ℕ) → ArePages pages (length items) capacity → capacity < 2 ^ 63 → values_of d pages items count ≡ now → index < length now → start ≡ start_of pages (index / 64) → start ≡ nowhere → (e : T) → d ≡ get_or now index e
read_empty d pages items capacity count index start are small view low begins none e =
    sym (empty_value d pages items capacity are small index (sym begins ∙ none)) ∙ read_value d pages items count index view low e

-- The page of an index is stored within the items.
pub start_within : (pages : List ℕ) (size capacity index start : ℕ) → ArePages pages size capacity → start ≡ start_of pages (index / 64) → (start ≡ nowhere → ⊥) → start + 64 ≤ size
start_within pages size capacity index start are is stored = omega (arith, is, are.each (index / 64) (λ z. stored (is ∙ z)))

-- A value has a page.
pub has_page : {T : Type 0} (d : T) (pages : List ℕ) (items : List T) (count : ℕ) {now : List T} (index : ℕ) → values_of d pages items count ≡ now → count ≤ 64 * length pages → index < length now → index < 64 * length pages
has_page d pages items count index view few low = omega (arith, few, low, count_is d pages items count view)

-- A value is written.
pub changed : {T : Type 0} (d : T) (pages new : List ℕ) (items stored : List T) (count : ℕ) {now : List T} (index : ℕ) (x : T) → values_of d pages items count ≡ now → values_of d new stored count ≡ set (values_of d pages items count) index x → values_of d new stored count ≡ set now index x
changed d pages new items stored count index x view write = rw (← view) write

-- A value that was not written.
pub unwritten : {T : Type 0} (d : T) (pages new : List ℕ) (items stored : List T) (index : ℕ) (x : T) → ((n : ℕ) → index < n → values_of d new stored n ≡ set (values_of d pages items n) index x) → (k : ℕ) → (k ≡ index → ⊥) → value_at d new stored k ≡ value_at d pages items k
unwritten d pages new items stored index x values k other =
    let n = k + index + 1 in
    sym (get_or-map-range_with_len (value_at d new stored) 0 n k k d (omega arith) (omega arith))
    ∙ (ap (λ l. get_or l k d) (values n (omega arith))
    ∙ (get_or-set_other (values_of d pages items n) index k x d other
    ∙ get_or-map-range_with_len (value_at d pages items) 0 n k k d (omega arith) (omega arith)))

-- A value that was written.
now_written : {T : Type 0} (d : T) (pages new : List ℕ) (items stored : List T) (index : ℕ) (x : T) → ((n : ℕ) → index < n → values_of d new stored n ≡ set (values_of d pages items n) index x) → value_at d new stored index ≡ x
now_written d pages new items stored index x values =
    let n = index + 1 in
    sym (get_or-map-range_with_len (value_at d new stored) 0 n index index d (omega arith) (omega arith))
    ∙ (ap (λ l. get_or l index d) (values n (omega arith))
    ∙ get_or-set_same (values_of d pages items n) index x d (omega (arith, length-map-range_with_len (value_at d pages items) 0 n)))

-- The values from the count on stay empty if one before is written.
pub still_empty : {T : Type 0} (d : T) (pages new : List ℕ) (items stored : List T) (count index : ℕ) (x : T) → AreEmptyFrom d pages items count → index < count → ((n : ℕ) → index < n → values_of d new stored n ≡ set (values_of d pages items n) index x) → AreEmptyFrom d new stored count
still_empty d pages new items stored count index x empty low values k past =
    unwritten d pages new items stored index x values k (λ e. omega (arith, low, past, e)) ∙ empty k past

-- The values from the count on are empty, and so is the last, which is made so.
pub one_fewer : {T : Type 0} (d : T) (pages new : List ℕ) (items stored : List T) (count index : ℕ) → AreEmptyFrom d pages items count → index + 1 ≡ count → ((n : ℕ) → index < n → values_of d new stored n ≡ set (values_of d pages items n) index d) → AreEmptyFrom d new stored index
one_fewer d pages new items stored count index empty last values k past = by_case (cases_eq k index)
  where
    by_case : (k ≡ index) ⊎ (k ≡ index → ⊥) → value_at d new stored k ≡ d
    by_case (inl e) = ap (value_at d new stored) e ∙ now_written d pages new items stored index d values
    by_case (inr other) = unwritten d pages new items stored index d values k other ∙ empty k (omega (arith, past, other, last))

-- The values from the count on stay empty if no value changes.
pub as_empty : {T : Type 0} (d : T) (pages new : List ℕ) (items stored : List T) (count : ℕ) → AreEmptyFrom d pages items count → ((n : ℕ) → values_of d new stored n ≡ values_of d pages items n) → AreEmptyFrom d new stored count
as_empty d pages new items stored count empty values k past =
    sym (get_or-map-range_with_len (value_at d new stored) 0 (k + 1) k k d (omega arith) (omega arith))
    ∙ (ap (λ l. get_or l k d) (values (k + 1))
    ∙ (get_or-map-range_with_len (value_at d pages items) 0 (k + 1) k k d (omega arith) (omega arith) ∙ empty k past))

-- Nothing is stored.
none_stored : {T : Type 0} (d : T) → AreEmptyFrom d [] [] 0
unfolding value_at
none_stored d k past = get_or_past [] (start_of [] (k / 64) + k % 64) d (omega arith)

pub no_pages : {T : Type 0} (d : T) {pages : List ℕ} {items : List T} (capacity : ℕ) → pages ≡ [] → items ≡ [] → ArePages pages (length items) capacity × (0 ≤ 64 * length pages) × AreEmptyFrom d pages items 0
no_pages d capacity none empty =
    rw (none, empty) (record { each = λ p s. absurd (s refl); apart = λ a b n s t. absurd (s refl); room = refl; memory = omega arith }, omega arith, none_stored d)

-- There is one more value, which is empty.
pub pushed : {T : Type 0} (d : T) (pages new : List ℕ) (items stored : List T) (count : ℕ) {now : List T} → values_of d pages items count ≡ now → AreEmptyFrom d pages items count → values_of d new stored (count + 1) ≡ values_of d pages items (count + 1) → values_of d new stored (count + 1) ≡ now ++ d ∷ []
pushed d pages new items stored count {now} view empty same =
    same ∙ (map-range_with_len_more (value_at d pages items) 0 count count (omega arith)
    ∙ (ap (λ x. values_of d pages items count ++ x ∷ []) (empty count (omega arith)) ∙ ap (λ l. l ++ d ∷ []) view))

-- There is one value fewer, which was made empty.
pub cut : {T : Type 0} (d : T) (pages new : List ℕ) (items stored : List T) (count last : ℕ) {now : List T} → values_of d pages items count ≡ now → last + 1 ≡ count → values_of d new stored count ≡ set (values_of d pages items count) last d → values_of d new stored last ≡ take (length now - 1) now
cut d pages new items stored count last {now} view less write =
    sym (take-map-range_with_len (value_at d new stored) 0 count last (omega (arith, less)))
    ∙ (ap (take last) (write ∙ ap (λ l. set l last d) view)
    ∙ (take-set-le last now last d (omega arith)
    ∙ ap (λ n. take n now) (omega (arith, less, count_is d pages items count view))))

-- One more value is there, or none.
pub pushed-either : {T A E : Type 0} (old : List T) {new : List T} (x : T) (r : Result A E) → OnOk r (new ≡ old ++ x ∷ []) → OnErr r (new ≡ old) → new ≡ (if is_ok r then old ++ x ∷ [] else old)
pushed-either old x (Ok a) ok err = ok
pushed-either old x (Err e) ok err = err

-- The last value is another.
pub last_set : {T : Type 0} (old pushed new : List T) (empty x : T) (n : ℕ) → pushed ≡ old ++ empty ∷ [] → n ≡ length old → new ≡ set pushed n x → new ≡ old ++ x ∷ []
last_set old pushed new empty x n push last write =
    write ∙ (rw (push, last) (set-append_seam old empty [] x))
