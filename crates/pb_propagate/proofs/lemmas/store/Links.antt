-- Terms are added to the lists and removed, in the terms of the store and of what the program reads.
use Rattle.pb_propagate.proofs.Common.{ℕ, ◌++◌, ◌+◌, ◌-◌, ◌<◌, ◌∙◌, ◌∷◌, ◌≡◌, ◌≤◌, ◌⊎◌, [], ap, arith, get_or, get_or-set_other, Global, length, length-append}
use Rattle.pb_propagate.proofs.Common.{length-set, List, None, Occurrence, refl, set, sym, take, slice_get, Some, sum_by, swap_remove, cases_Bool}
use Rattle.pb_propagate.proofs.Common.{cases_eq, false, inl, inr, get_or_default, get_or_from_slice_get, last, length-take-le, Moved, sum_by-set, stored_shape}
use Rattle.pb_propagate.proofs.Common.{sum_by-swap_remove, sum_by_more, sum_by_push, slice_get-get_or, slice_get_past, slice_get_within, Vec, weighted}
use Rattle.pb_propagate.proofs.Common.{NumberedLiteral, Term, entries_of, entry_weight, place, term_weight, weight_in, weight_on, cut, degree_at, entry_at}
use Rattle.pb_propagate.proofs.Common.{entry_cross, IsLinked, Option, term_at, term_cross, terms_at, cases_lt, same, Shape, Weighted, AreLonger, IsSound, Store}
use Rattle.pb_propagate.proofs.Common.{stored_terms, subst, get_or-map, length-map, map-set, set_past, StoredForm, Spots, spots_in, shapes_of, spots_of}
use Rattle.pb_propagate.proofs.lemmas.engine.{Literals.same-true, Literals.same-refl, Literals.place-injective, Propagated.shape-at, Propagated.term-inside}
use Rattle.pb_propagate.proofs.lemmas.engine.Runs.{entry_weight-same, entry_weight-other, term_weight-same, term_weight-other, place-inside}
use Rattle.pb_propagate.proofs.lemmas.store.Gets.{swap-past, swap-here, swap-length, get-take_less, get-take_past, get-push_same, get-push_other, get-set_at}
use Rattle.pb_propagate.proofs.lemmas.store.{Gets.get-set_other, Gets.swap-other, Positions.taken-is}
use Rattle.pb_propagate.proofs.lemmas.store.Stored.{to, Same, crossed-add, crossed-drop, crossed-move, entry-back, named-term, named-spot, entries-length}
use Rattle.pb_propagate.proofs.lemmas.store.Stored.{entries-size, entries-pushed, entries-taken, entry-weighted, item-taken}
use Rattle.{pb_propagate.specs.engine.engine.Links.none, std.proofs.lemmas.Grind.get_or-set_at}
pub use Rattle.pb_propagate.proofs.lemmas.store.Stored.{entries-length}

-- how many forms there are when one is cut
pub cut-length : (base : List Shape) (s i : ℕ) → length (cut base s i) ≡ length base
cut-length base s i = length-set base s (record { terms = take i (terms_at base s); degree = degree_at base s })

-- the term at a position of a form, and its entry
pub record IsTerm (base : List Shape) (s i : ℕ) (t : Term) : Type 0 where
  pub inside : s < length base
  pub within : i < length (terms_at base s)
  pub is : t ≡ get_or (terms_at base s) i t

abbrev pub entry_for : ℕ → ℕ → Term → Weighted
entry_for s i t = record { form = s; index = i; coefficient = t.coefficient }

-- a list that gains an entry
record Gains (lists lists' : List (List Weighted)) (p : ℕ) (e : Weighted) : Type 0 where
  here : (s : ℕ) → weight_in s (get_or lists' p []) ≡ weight_in s (get_or lists p []) + entry_weight s e
  others : (q : ℕ) → (q ≡ p → ⊥) → get_or lists' q [] ≡ get_or lists q []
  total : sum_by length lists' ≡ sum_by length lists + 1

term_weight-apart : (l : NumberedLiteral) (t : Term) → (place l ≡ place t.literal → ⊥) → term_weight l t ≡ 0
term_weight-apart l t n = grind (arith, cases_Bool (same t.literal l), same-true t.literal l, term_weight-other l t, n)

term_weight-one : (l : NumberedLiteral) (t : Term) → place l ≡ place t.literal → term_weight l t ≡ t.coefficient
term_weight-one l t e = term_weight-same l t (rw (place-injective l t.literal e) (same-refl t.literal))

term-made : (o : Option Term) (r : Option ℕ) (t : Term) (q : ℕ) → o ≡ Some t → r ≡ Some q → term_cross o r ≡ to (place t.literal) q t.coefficient
term-made o r t q h k = rw (h, k) refl

module _ {base : List Shape} {s0 i : ℕ} {t : Term} (x : IsTerm base s0 i t) where
  -- by how much both sides differ
  balance : {lists lists' : List (List Weighted)} → Gains lists lists' (place t.literal) (entry_for s0 i t) → (s : ℕ) (d : Shape) (l : NumberedLiteral) →
      s < length base → weight_in s (get_or lists' (place l) []) + weight_on l (get_or (cut base s0 i) s d).terms ≡
      weight_in s (get_or lists (place l) []) + weight_on l (get_or (cut base s0 (i + 1)) s d).terms
  balance g s d l there =
      let more = sum_by_more (term_weight l) (terms_at base s0) i t x.within in
      grind (arith, cases_eq s s0, cases_eq (place l) (place t.literal), get_or-set_at, get_or-set_other, more, x.is, x.inside, g.here s, g.others (place l), entry_weight-same, entry_weight-other, term_weight-apart, term_weight-one)

  totals-next : sum_by (λ f. length f.terms) (cut base s0 (i + 1)) ≡ sum_by (λ f. length f.terms) (cut base s0 i) + 1
  totals-next = grind (arith, sum_by-set, length-take-le, x.inside, x.within)

  -- what the terms name
  term-here : (spots : List (List ℕ)) (q : ℕ) → slice_get (get_or spots s0 []) i ≡ Some q →
      term_at (cut base s0 (i + 1)) spots s0 i ≡ to (place t.literal) q t.coefficient
  term-here spots q spot = grind (arith, get_or-set_at, get-take_less, slice_get-get_or, x.inside, x.within, x.is, spot, term-made)

  term-none : (spots : List (List ℕ)) → term_at (cut base s0 i) spots s0 i ≡ None
  term-none spots = grind (arith, get_or-set_at, get-take_past, x.inside)

  terms-step : (s j : ℕ) → Same s j s0 i ⊎ (slice_get (terms_at (cut base s0 (i + 1)) s) j ≡ slice_get (terms_at (cut base s0 i) s) j)
  terms-step s j = grind (arith, cases_eq s s0, cases_eq j i, get_or-set_at, get_or-set_other, cases_lt j i, get-take_less, get-take_past, x.inside)

  -- a term is added
  pub link-by : (all : List (List ℕ)) (occ occ' : List (List Occurrence)) (spots spots' : List ℕ) → s0 < length all → place t.literal < length occ →
      occ' ≡ set occ (place t.literal) (get_or occ (place t.literal) [] ++ (record { form = s0; index = i } ∷ [])) →
      spots' ≡ spots ++ (length (get_or occ (place t.literal) []) ∷ []) → length spots ≡ i →
      IsLinked (cut base s0 i) (set all s0 spots) (entries_of base occ) → IsLinked (cut base s0 (i + 1)) (set all s0 spots') (entries_of base occ')
  link-by all occ occ' spots spots' wide room longer pushed size old =
      let p = place t.literal in
      let lists = entries_of base occ in
      let lists' = entries_of base occ' in
      let es = get_or lists p [] in
      let e = entry_for s0 i t in
      let before = set all s0 spots in
      let after = set all s0 spots' in
      let less = cut-length base s0 i in
      let more = cut-length base s0 (i + 1) in
      let blank : Term = record { literal = record { variable = 0; negated = false }; coefficient = 0 } in
      let o : Occurrence = record { form = s0; index = i } in
      let inside : p < length lists = omega (arith, room, entries-length base occ) in
      let weight : weighted base o ≡ e = ap (entry_for s0 i) (get_or_default (terms_at base s0) i blank t x.within ∙ sym x.is) in
      let grown : lists' ≡ set lists p (es ++ (e ∷ [])) = entries-pushed base occ occ' p o longer ∙ ap (λ (y : Weighted). set lists p (es ++ (y ∷ []))) weight in
      let now : get_or lists' p [] ≡ es ++ (e ∷ []) = grind (arith, grown, get_or-set_at, inside) in
      let apart : (q : ℕ) → (q ≡ p → ⊥) → get_or lists' q [] ≡ get_or lists q [] = λ q n. grind (arith, grown, get_or-set_other, n) in
      let gains : Gains lists lists' p e = grind (arith, now, sum_by_push, apart, sum_by-set, inside, grown, length-append) in
      let long = entries-size base occ p in
      let spot : slice_get (get_or after s0 []) i ≡ Some (length es) = grind (arith, get_or-set_at, wide, pushed, get-push_same, size, long) in
      record {
        linked = λ s d l h. omega (arith, balance gains s d l (omega (arith, h, more)), old.linked s d l (omega (arith, h, less, more)));
        totals = omega (arith, gains.total, old.totals, totals-next);
        crossed = crossed-add (term_at (cut base s0 i) before) (term_at (cut base s0 (i + 1)) after) (entry_at lists) (entry_at lists') s0 i p (length es) t.coefficient
            (grind (arith, term-none before, term-here after (length es) spot, terms-step, cases_eq, get_or-set_at, get_or-set_other, get-push_other, pushed, size, wide))
            (grind (arith, slice_get_past, now, get-push_same, cases_eq, apart, get-push_other))
            old.crossed;
        sizes = omega (arith, old.sizes, length-set all s0 spots, length-set all s0 spots', less, more);
      }

-- the entry that a term names
pub named-entry : {base : List Shape} {s0 i : ℕ} {t : Term} (spots : List (List ℕ)) (lists : List (List Weighted)) (q : ℕ) → IsTerm base s0 i t → slice_get (get_or spots s0 []) i ≡ Some q → IsLinked (cut base s0 (i + 1)) spots lists →
    slice_get (get_or lists (place t.literal) []) q ≡ Some (entry_for s0 i t)
named-entry {base} {s0} {i} {t} spots lists q x spot old =
    entry-back (slice_get (get_or lists (place t.literal) []) q) s0 i t.coefficient ((old.crossed s0 i (place t.literal) q t.coefficient).0 (term-here x spots q spot))

-- the entry that is removed is the last one, or the last one moves to its position
moved-cases : {es : List Occurrence} {q : ℕ} {spots spots' : List (List ℕ)} → Moved es q spots spots' →
    (length spots' ≡ length spots) × (((q + 1 ≡ length es) × (spots' ≡ spots)) ⊎
    ((m : Occurrence) × (q + 1 < length es) × (slice_get es (length es - 1) ≡ Some m) × (spots' ≡ set spots m.form (set (get_or spots m.form []) m.index q))))
moved-cases (none end) = (refl, inl (end, refl))
moved-cases {es} {q} {spots} (last m more at) = (length-set spots m.form (set (get_or spots m.form []) m.index q), inr (m, more, at, refl))

-- a term and its entry are removed
pub unlink-next : {base : List Shape} {spots : List (List ℕ)} {s0 i q : ℕ} {t : Term} (occ occ' : List (List Occurrence)) (o : Occurrence) → IsTerm base s0 i t →
    slice_get (get_or spots s0 []) i ≡ Some q → place t.literal < length occ → o ≡ get_or (get_or occ (place t.literal) []) q o →
    occ' ≡ set occ (place t.literal) (swap_remove (get_or occ (place t.literal) []) q o) →
    IsLinked (cut base s0 (i + 1)) spots (entries_of base occ) → (spots' : List (List ℕ)) → Moved (get_or occ (place t.literal) []) q spots spots' →
    IsLinked (cut base s0 i) spots' (entries_of base occ')
unlink-next {base} {spots} {s0} {i} {q} {t} occ occ' o x at inside read taken old spots' moved =
    let p = place t.literal in
    let lists = entries_of base occ in
    let lists' = entries_of base occ' in
    let es = get_or lists p [] in
    let e = entry_for s0 i t in
    let top = length es - 1 in
    let f = term_at (cut base s0 (i + 1)) spots in
    let size = entries-size base occ p in
    let less = cut-length base s0 i in
    let more = cut-length base s0 (i + 1) in
    let item : slice_get es q ≡ Some e = named-entry spots lists q x at old in
    let within : q < length es = slice_get_within es q e item in
    let same : weighted base o ≡ e = taken-is es q e (weighted base o) item (item-taken base occ p q o read) in
    let shorter : lists' ≡ set lists p (swap_remove es q e) = entries-taken base occ occ' p q o taken ∙ ap (λ (y : Weighted). set lists p (swap_remove es q y)) same in
    let room : p < length lists = omega (arith, inside, entries-length base occ) in
    let now : get_or lists' p [] ≡ swap_remove es q e = grind (arith, shorter, get_or-set_at, room) in
    let others : (k : ℕ) → (k ≡ p → ⊥) → get_or lists k [] ≡ get_or lists' k [] = λ k n. grind (arith, shorter, get_or-set_other, n) in
    let gains : Gains lists' lists p e = grind (arith, now, sum_by-swap_remove, within, get_or_from_slice_get, item, others, sum_by-set, room, shorter, swap-length) in
    let entries : (r k : ℕ) → Same r k p q ⊎ Same r k p top ⊎ (entry_at lists' r k ≡ entry_at lists r k) =
    λ r k. grind (arith, cases_eq r p, cases_eq k q, cases_eq k top, now, others r, swap-other) in
    let gone : (k : ℕ) → top ≤ k → entry_at lists' p k ≡ None = λ k h. ap entry_cross (ap (λ (xs : List Weighted). slice_get xs k) now ∙ swap-past es q k e h) in
    record {
      linked = λ s d k h. omega (arith, balance x gains s d k (omega (arith, h, less)), old.linked s d k (omega (arith, h, less, more)));
      totals = omega (arith, gains.total, old.totals, totals-next x);
      crossed = elim (moved-cases moved).1 [
        | inl end ↦
            rw end.1 (crossed-drop f (term_at (cut base s0 i) spots) (entry_at lists) (entry_at lists') s0 i p q t.coefficient
            (record { was = term-here x spots q at; now = term-none x spots; others = λ s j. grind (arith, terms-step x s j) })
            (record { was = ap entry_cross item; now = gone q (omega (arith, end.0, size)); others = λ r k. grind (arith, entries r k, end.0, size) })
            old.crossed)
        | inr moves ↦
            let m = moves.0 in
            let w = weighted base m in
            let next = set spots m.form (set (get_or spots m.form []) m.index q) in
            let got : slice_get es top ≡ Some w = rw size (entry-weighted base occ p (length (get_or occ p []) - 1) m moves.2) in
            let named = named-term (cut base s0 (i + 1)) spots lists p top w got old in
            let places = named-spot (cut base s0 (i + 1)) spots lists p top w got old in
            let spot : slice_get (get_or next m.form []) m.index ≡ Some q = grind (arith, get_or-set_at, get-set_at, places.0, places.1) in
            let still : slice_get (terms_at (cut base s0 i) m.form) m.index ≡ Some named.term =
            grind (arith, terms-step x m.form m.index, named.is, named.spot, at, moves.1, size) in
            rw moves.3 (crossed-move f (term_at (cut base s0 i) next) (entry_at lists) (entry_at lists') (record { row = s0; column = i; weight = t.coefficient })
            (record { row = m.form; column = m.index; weight = w.coefficient }) p q top
            (grind (arith, term-here x spots q at, term-none x next, (old.crossed m.form m.index p top w.coefficient).1, got, term-made, still, spot, named.row, named.weight, terms-step x, cases_eq, get_or-set_at, get_or-set_other, get-set_other, places.0))
            (grind (arith, got, gone, item, now, swap-here, moves.1, size, entries))
            old.crossed)
      ];
      sizes = (moved-cases moved).0 ∙ old.sizes ∙ more ∙ sym less;
    }

-- ---- Adding and removing terms, in terms of what the program reads.
pub longer-push : (occ occ' : List (List Occurrence)) (p : ℕ) (o : Occurrence) → p < length occ → occ' ≡ set occ p (get_or occ p [] ++ (o ∷ [])) → AreLonger occ occ'
longer-push occ occ' p o room pushed q = grind (arith, cases_eq q p, pushed, get_or-set_at, get_or-set_other, length-append)

-- an entry is removed
pub taken-last : (es : List Occurrence) (q : ℕ) (spots : List (List ℕ)) → q + 1 ≡ length es → Moved es q spots spots
taken-last es q spots end = none (omega (arith, end))

pub spots-moved : (spots : List Spots) (es : List Occurrence) (q : ℕ) (m : Occurrence) (w0 w1 : Spots) → m.form < length spots → w0 ≡ get_or spots m.form w0 → spots_in w1 ≡ set (spots_in w0) m.index q → q + 1 < length es → slice_get es (length es - 1) ≡ Some m → Moved es q (spots_of spots) (spots_of (set spots m.form w1))
spots-moved spots es q m w0 w1 room value put more at =
    let those : get_or (spots_of spots) m.form [] ≡ (spots_in w0) = get_or-map spots_in spots m.form w0 [] room ∙ ap spots_in (sym value) in
    let shape : spots_of (set spots m.form w1) ≡ set (spots_of spots) m.form (set (get_or (spots_of spots) m.form []) m.index q) =
    map-set spots_in spots m.form w1 ∙ ap (λ xs. set (spots_of spots) m.form xs) (put ∙ ap (λ (xs : List ℕ). set xs m.index q) (sym those)) in
    rw shape (last m more at)

-- the terms of a form from `left` on are removed
pub record IsUnlinking (store now : Store) (form left : ℕ) : Type 0 where
  pub stored : now.stored ≡ store.stored
  pub variables : now.variables ≡ store.variables
  pub lists : length now.occurrences ≡ length store.occurrences
  pub within : left ≤ length (terms_at (shapes_of store.stored.items) form)
  pub rooms : (s : ℕ) → length (get_or (spots_of now.spots) s []) ≡ length (get_or (spots_of store.spots) s [])
  pub linked : IsLinked (cut (shapes_of store.stored.items) form left) (spots_of now.spots) (entries_of (shapes_of store.stored.items) now.occurrences)

-- the position of the last term's entry is there
pub unlink-inside : {store now : Store} {form left : ℕ} → IsSound store → IsUnlinking store now form left → 0 < left → form < length store.stored.items → (form < length now.spots) × (left - 1 < length (get_or (spots_of now.spots) form []))
unlink-inside {store} {now} {form} {left} sound u some inside =
    let base = shapes_of store.stored.items in
    let inside_base : form < length base = omega (arith, inside, length-map store.stored.items stored_shape) in (
      omega (arith, u.linked.sizes, cut-length base form left, inside_base, length-map now.spots spots_in),
      omega (arith, u.within, some, u.rooms form, sound.rooms form inside_base),
    )

-- what a term's removal needs and does
pub record UnlinkRead (base : List Shape) (spots : List (List ℕ)) (occ : List (List Occurrence)) (form j q p : ℕ) : Type 0 where
  pub room : p < length occ
  pub spot_in : q < length (get_or occ p [])
  pub named : (o : Occurrence) → slice_get (get_or occ p []) (length (get_or occ p []) - 1) ≡ Some o → (o.form < length spots) × (o.index < length (get_or spots o.form []))
  pub next : (spots' : List (List ℕ)) (occ' : List (List Occurrence)) → ((o : Occurrence) × (o ≡ get_or (get_or occ p []) q o) × (occ' ≡ set occ p (swap_remove (get_or occ p []) q o))) → Moved (get_or occ p []) q spots spots' → IsLinked (cut base form j) spots' (entries_of base occ')

pub unlink-read : {store now : Store} {form left : ℕ} (k : StoredForm) (t : Term) (w : Spots) (q p : ℕ) → IsSound store → IsUnlinking store now form left → 0 < left → form < length store.stored.items → k ≡ get_or now.stored.items form k → t ≡ get_or (stored_terms k) (left - 1) t → w ≡ get_or now.spots form w → q ≡ get_or (spots_in w) (left - 1) q → p ≡ place t.literal →
    UnlinkRead (shapes_of store.stored.items) (spots_of now.spots) now.occurrences form (left - 1) q p
unlink-read {store} {now} {form} {left} k t w q p0 sound u some inside kept_is item spots_is spot_is place_is =
    let keep = store.stored.items in
    let base = shapes_of keep in
    let j = left - 1 in
    let occ = now.occurrences in
    let p = place t.literal in
    let kept_here : k ≡ get_or keep form k = rw (ap (λ (v : Vec StoredForm Global). v.items) u.stored) at kept_is in
    let inside_base : form < length base = omega (arith, inside, length-map keep stored_shape) in
    let within : j < length (terms_at base form) = omega (arith, u.within, some) in
    let those : terms_at base form ≡ (stored_terms k) = ap (λ (f : Shape). f.terms) (shape-at keep form k inside kept_here (record { terms = []; degree = 0 })) in
    let x : IsTerm base form j t = record { inside = inside_base; within = within; is = rw those item } in
    let inside_sp : form < length now.spots = omega (arith, u.linked.sizes, cut-length base form left, inside_base, length-map now.spots spots_in) in
    let spots_here : get_or (spots_of now.spots) form [] ≡ spots_in w = get_or-map spots_in now.spots form w [] inside_sp ∙ ap spots_in (sym spots_is) in
    let within_w : j < length (spots_in w) = omega (arith, within, u.rooms form, sound.rooms form inside_base, ap length spots_here) in
    let spot : slice_get (get_or (spots_of now.spots) form []) j ≡ Some q = ap (λ (xs : List ℕ). slice_get xs j) spots_here ∙ slice_get-get_or (spots_in w) j q within_w ∙ ap (λ y. Some y) (sym spot_is) in
    let linked : IsLinked (cut base form (j + 1)) (spots_of now.spots) (entries_of base occ) = subst (λ n. IsLinked (cut base form n) (spots_of now.spots) (entries_of base occ)) (omega (arith, some)) u.linked in
    let variable : t.literal.variable < store.variables = term-inside keep store.variables form k (stored_terms k) j t inside kept_here refl (omega (arith, within, ap length those)) item sound.inside in
    let room : p < length occ = omega (arith, place-inside t.literal store.variables variable, sound.places, u.lists, entries-length base store.occurrences) in
    let entry : slice_get (get_or (entries_of base occ) p []) q ≡ Some (entry_for form j t) = named-entry (spots_of now.spots) (entries_of base occ) q x spot linked in
    rw place_is (record {
      room = room;
      spot_in = omega (arith, slice_get_within (get_or (entries_of base occ) p []) q (entry_for form j t) entry, entries-size base occ p);
      named = λ o h. named-spot (cut base form (j + 1)) (spots_of now.spots) (entries_of base occ) p (length (get_or occ p []) - 1) (weighted base o) (entry-weighted base occ p (length (get_or occ p []) - 1) o h) linked;
      next = λ spots' occ' taken moved. unlink-next occ occ' taken.0 x spot room taken.1 taken.2 linked spots' moved;
    })

-- a move does not change the sizes
pub moved-rooms : (es : List Occurrence) (q : ℕ) (spots spots' : List (List ℕ)) → Moved es q spots spots' → (s : ℕ) → length (get_or spots' s []) ≡ length (get_or spots s [])
moved-rooms es q spots _ (none end) s = refl
moved-rooms es q spots _ (last m more at) s = grind (arith, cases_eq s m.form, cases_lt m.form (length spots), get_or-set_at, get_or-set_other, set_past, length-set)

pub taken-length : (occ occ' : List (List Occurrence)) (p q : ℕ) → ((e : Occurrence) × (e ≡ get_or (get_or occ p []) q e) × (occ' ≡ set occ p (swap_remove (get_or occ p []) q e))) → length occ' ≡ length occ
taken-length occ occ' p q taken =
    omega (arith, ap length taken.2, length-set occ p (swap_remove (get_or occ p []) q taken.0))
