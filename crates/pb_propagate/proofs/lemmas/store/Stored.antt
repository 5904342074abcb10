-- A form's terms, as they are read, sorted and stored, and what terms and entries name.
use Rattle.pb_propagate.proofs.{Common.slice_get-map, Common.Occurrence, Common.entries_of, Common.weighted, lemmas.store.Gets.swap-map}
use Rattle.pb_propagate.proofs.Common.{ℕ, ◌+◌, ◌-◌, ◌<◌, ◌^◌, ◌∙◌, ◌∷◌, ◌≡◌, ◌≤◌, [], ap, arith, false, get_or, length, List, map, of_z, pos, refl, sym, to_z}
use Rattle.pb_propagate.proofs.Common.{ℤ, All, IsPermutation, sum_by, sum, sum-map, unsigned_abs, get_or-map, get_or_default, length-map, IsPermutation-map}
use Rattle.pb_propagate.proofs.Common.{IsPermutation-sym, sum_by-IsPermutation, get_or-le-sum_by, sum_by-cons, w128, Entry, each, total, Rank, Term, AreFalling}
use Rattle.pb_propagate.proofs.Common.{IsCalm, AreEven, as_term, entry_at_place, entry_of, in_order, IsPermutation-refl, IsPlaced, length_permutation, picked}
use Rattle.pb_propagate.proofs.Common.{StoredForm, stored_shape, stored_bound, stored_degree, stored_terms, stored_total, unit_terms, UnitForm, ◌⊎◌}
use Rattle.pb_propagate.proofs.Common.{get_or_past, None, Option, slice_get, slice_get_within, Some, AreCrossed, Cross, entry_cross, IsLinked, place, Shape}
use Rattle.pb_propagate.proofs.Common.{term_cross, terms_at, Weighted, map-append, ◌++◌, set, suc, zero, swap_remove, map-set, slice_get-get_or}
use Rattle.pb_propagate.specs.declared.store.stored_form.StoredForm.TheVariants.{Single, Counted}
use Rattle.std.{proofs.lemmas.List.Elements.All-map, proofs.lemmas.Simd.map-map, specs.List.Sorted.IsNonDecreasingBy}
use Rattle.std.proofs.{Math.ListN.get_or-map as get-mapped, lemmas.Int.fits_signed_from_abs, lemmas.Int.to_z-of_z, lemmas.List.ext_get_or, lemmas.List.map-id}

-- the ranks of the first terms
pub record IsStanding (es : List Entry) (ranks : List Rank) (i : ℕ) : Type 0 where
  pub size : length ranks ≡ i
  pub each : (k : ℕ) (d : Rank) → k < i → get_or ranks k d ≡ record { place = k; coefficient = (entry_at_place es k).coefficient }

picked-ranks : (es : List Entry) (ranks : List Rank) → map (λ (r : Rank). entry_of (as_term (entry_at_place es r.place))) ranks ≡ map entry_of (picked es (map (λ r. r.place) ranks))
picked-ranks es [] = refl
picked-ranks es (r ∷ ranks) = ap (λ xs. entry_at_place es r.place ∷ xs) (picked-ranks es ranks)

pub standing-all : (es : List Entry) (ranks : List Rank) (i : ℕ) → i ≡ length es → IsStanding es ranks i →
    All (IsPlaced es) ranks × (map entry_of (picked es (map (λ r. r.place) ranks)) ≡ es)
standing-all es ranks i all s =
    let none : Entry = record { variable = 0; negated = false; coefficient = 0 } in
    let first : Rank = record { place = 0; coefficient = 0 } in
    let read = λ (r : Rank). entry_of (as_term (entry_at_place es r.place)) in
    let size = length-map ranks read in
    let same = ext_get_or none (map read ranks) es (omega (arith, size, s.size, all)) (λ k h.
    let less : k < length ranks = omega (arith, h, size) in
    get_or-map read ranks k first none less ∙ ap read (s.each k first (omega (arith, less, s.size)))) in
    (λ k d h. rw (s.each k d (omega (arith, h, s.size))) (omega (arith, h, s.size, all), refl), sym (picked-ranks es ranks) ∙ same)

-- with no positions the terms are those of the form
pub form-order : (es : List Entry) (places : List ℕ) → places ≡ [] → IsPermutation (map entry_of (in_order es places)) es
form-order es places none = rw (none, map-map entry_of as_term es, map-id es) (IsPermutation-refl es)

pub order-none : (es : List Entry) (places : List ℕ) → length places ≡ 0 → in_order es places ≡ map as_term es
order-none es [] none = refl
order-none es (p ∷ places) none = absurd (omega (arith, none))

-- otherwise those at the positions
pub order-some : (es : List Entry) (places : List ℕ) → (length places ≡ 0 → ⊥) → in_order es places ≡ picked es places
order-some es [] some = absurd (some refl)
order-some es (p ∷ places) some = refl

-- positions that pick all entries
pub picked-order : (es : List Entry) (places : List ℕ) → IsPermutation (map entry_of (picked es places)) es → in_order es places ≡ picked es places
picked-order [] [] same = refl
picked-order (e ∷ es) [] same = absurd (omega (arith, length_permutation [] (e ∷ es) same))
picked-order es (p ∷ places) same = refl

pub picked-even : (es : List Entry) (places : List ℕ) → IsPermutation (map entry_of (picked es places)) es → places ≡ [] → AreEven (in_order es places)
picked-even es places same none i d inside =
    absurd (omega (arith, inside, ap length (picked-order es places same), length-map places (λ q. as_term (entry_at_place es q)), ap length none))

-- equal coefficients
pub equal-even : (es : List Entry) (places : List ℕ) → ((i j : ℕ) (d : Entry) → i < length es → j < length es → (get_or es i d).coefficient ≡ (get_or es j d).coefficient) → places ≡ [] → AreEven (in_order es places)
equal-even es places equal none i d inside =
    let e : Entry = record { variable = 0; negated = false; coefficient = 0 } in
    grind (arith, order-none, none, get_or-map as_term es i e d, get_or-map as_term es 0 e d, equal i 0 e, length-map, inside)

pub even-falls : (terms : List Term) → AreEven terms → AreFalling terms
even-falls terms even i j d less inside = omega (arith, even i d (omega (arith, less, inside)), even j d inside)

pub ranked-same : (es : List Entry) (old new : List Rank) → map entry_of (picked es (map (λ r. r.place) old)) ≡ es → IsPermutation old new → IsPermutation (map entry_of (picked es (map (λ r. r.place) new))) es
ranked-same es old new e p =
    let back = IsPermutation-map (λ (r : Rank). entry_of (as_term (entry_at_place es r.place))) new old (IsPermutation-sym old new p) in
    rw (picked-ranks es new, picked-ranks es old, e) at back

pub placed-inside : (es : List Entry) (ranks : List Rank) → All (IsPlaced es) ranks → All (λ p. p < length es) (map (λ r. r.place) ranks)
placed-inside es ranks all = All-map (λ (p : ℕ). p < length es) (λ (r : Rank). r.place) ranks (λ k d h. (all k d h).0)

rank-read : (es : List Entry) (ranks : List Rank) (k : ℕ) (d : Term) (r : Rank) → k < length ranks →
    get_or (picked es (map (λ r. r.place) ranks)) k d ≡ as_term (entry_at_place es (get_or ranks k r).place)
rank-read es ranks k d r less =
    let place = λ (x : Rank). x.place in
    let pick = λ (q : ℕ). as_term (entry_at_place es q) in
    get_or-map pick (map place ranks) k r.place d (omega (arith, less, length-map ranks place)) ∙ ap pick (get_or-map place ranks k r r.place less)

pub ranked-falling : (es : List Entry) (ranks : List Rank) (m : ℕ) → IsNonDecreasingBy (λ r. m - r.coefficient) ranks → sum_by (λ e. e.coefficient) es ≤ m → All (IsPlaced es) ranks → AreFalling (picked es (map (λ r. r.place) ranks))
ranked-falling es ranks m up small all i j d less inside =
    let r : Rank = record { place = 0; coefficient = 0 } in
    let none : Entry = record { variable = 0; negated = false; coefficient = 0 } in
    let within : j < length ranks = grind (arith, inside, length-map) in
    let before : i < length ranks = omega (arith, less, within) in
    let top = get_or-le-sum_by (λ (e : Entry). e.coefficient) es (get_or ranks j r).place none (all j r within).0 in
    rw (rank-read es ranks i d r before, rank-read es ranks j d r within) (omega (arith, up i j r less within, (all i r before).1, (all j r within).1, top, small))

sum_by-entries : (ts : List Term) → sum_by (λ e. e.coefficient) (map entry_of ts) ≡ sum_by (λ t. t.coefficient) ts
sum_by-entries ts = sym (sum-map (λ (e : Entry). e.coefficient) (map entry_of ts)) ∙ ap sum (map-map _ entry_of ts) ∙ sum-map (λ (t : Term). t.coefficient) ts

pub total-each : (es : List Entry) → total each es ≡ sum_by (λ e. e.coefficient) es
total-each [] = refl
total-each (e ∷ es) = omega (arith, total-each es, sum_by-cons (λ (x : Entry). x.coefficient) e es)

pub kept-size : (ts : List Term) (es : List Entry) → IsPermutation (map entry_of ts) es → sum_by (λ t. t.coefficient) ts ≡ total each es
kept-size ts es p =
    omega (arith, sum_by-entries ts, total-each es, sum_by-IsPermutation (λ (e : Entry). e.coefficient) (map entry_of ts) es p)

pub degree-read : (u : ℕ) (r : ℤ) (d : ℕ) → u ≡ unsigned_abs (to_z w128 (of_z w128 r)) → r ≡ pos d → d < 2 ^ 127 → u ≡ d
degree-read u r d e is small = grind (arith, fits_signed_from_abs, to_z-of_z)

-- with an open sum of its degree and its largest coefficient a form is calm, whatever its candidate
pub bound-calm : (terms : List Term) (degree bound : ℕ) (e : Term) → AreFalling terms → 0 < length terms → bound ≡ degree + (get_or terms 0 e).coefficient → (opened c : ℕ) → bound ≤ opened → IsCalm (record { terms = terms; degree = degree }) opened c
bound-calm terms degree bound e falling some is opened c low = grind (arith, is, low, falling 0 c, get_or_default)

-- what holds of the form of each slot
pub unit-one : (unit : UnitForm) → length (unit_terms unit) ≡ 1
unit-one unit = length-map unit.form.terms as_term ∙ unit.single

pub unit-size : (unit : UnitForm) → sum_by (λ t. t.coefficient) (unit_terms unit) ≡ total each unit.form.terms
unit-size unit = kept-size (unit_terms unit) unit.form.terms (form-order unit.form.terms [] refl)

one-even : (terms : List Term) → length terms ≡ 1 → AreEven terms
one-even terms one i d inside = let first : i ≡ 0 = omega (arith, inside, one) in ap (λ n. (get_or terms n d).coefficient) first

pub stored-falling : (k : StoredForm) → AreFalling (stored_terms k)
stored-falling (Single unit) i j d less inside = even-falls (unit_terms unit) (one-even (unit_terms unit) (unit-one unit)) i j d less inside
stored-falling (Counted kept) i j d less inside = kept.value.falling i j d less inside
stored-falling _ i j d less inside = absurd (omega (arith, inside))

pub stored-sum : (k : StoredForm) → stored_total k ≡ sum_by (λ t. t.coefficient) (stored_terms k)
stored-sum (Single unit) = refl
stored-sum (Counted kept) = kept.value.sum
stored-sum _ = refl

pub stored-small : (k : StoredForm) → sum_by (λ t. t.coefficient) (stored_terms k) < 2 ^ 127
stored-small (Single unit) = omega (arith, unit-size unit, unit.small)
stored-small (Counted kept) = kept.value.small
stored-small _ = let none : sum_by (λ (t : Term). t.coefficient) [] ≡ 0 = refl in omega (arith, none)

pub stored-low : (k : StoredForm) → stored_degree k < 2 ^ 127
stored-low (Single unit) = omega (arith, unit.low)
stored-low (Counted kept) = kept.value.low
stored-low _ = omega arith

pub stored-idle : (k : StoredForm) (opened c : ℕ) → stored_bound k ≤ opened → IsCalm (stored_shape k) opened c
stored-idle (Single unit) opened c low = grind (arith, get_or-le-sum_by)
stored-idle (Counted kept) opened c low = kept.value.idle opened c low
stored-idle _ opened c low = record { met = low; waiting = λ d here. absurd (omega (arith, here)) }

-- ---- What terms and entries name, and the coefficients of entries.
abbrev pub Grid : Type 0
Grid = ℕ → ℕ → Option Cross

abbrev pub to : ℕ → ℕ → ℕ → Option Cross
to p q w = Some record { row = p; column = q; weight = w }

abbrev pub Same : ℕ → ℕ → ℕ → ℕ → Type 0
Same a b c d = (a ≡ c) × (b ≡ d)

-- a grid has another value at one position
pub record Turns (f f' : Grid) (a b : ℕ) (x y : Option Cross) : Type 0 where
  pub was : f a b ≡ x
  pub now : f' a b ≡ y
  pub others : (p q : ℕ) → Same p q a b ⊎ (f' p q ≡ f p q)

-- one pair more
pub crossed-add : (f f' g g' : Grid) (a b c d w : ℕ) → Turns f f' a b None (to c d w) → Turns g g' c d None (to a b w) → AreCrossed f g → AreCrossed f' g'
crossed-add f f' g g' a b c d w m k old r s t u v = grind (arith, m.was, m.now, m.others r s, k.was, k.now, k.others t u, old r s t u v)

-- one pair less
pub crossed-drop : (f f' g g' : Grid) (a b c d w : ℕ) → Turns f f' a b (to c d w) None → Turns g g' c d (to a b w) None → AreCrossed f g → AreCrossed f' g'
crossed-drop f f' g g' a b c d w m k old r s t u v = grind (arith, m.was, m.now, m.others r s, k.was, k.now, k.others t u, old r s t u v)

-- a grid has nothing at one position any more, and another value at a second one
pub record Moves (f f' : Grid) (a b p q : ℕ) (x y z : Option Cross) : Type 0 where
  pub first : f a b ≡ x
  pub none : f' a b ≡ None
  pub second : f p q ≡ y
  pub now : f' p q ≡ z
  pub others : (r s : ℕ) → Same r s a b ⊎ Same r s p q ⊎ (f' r s ≡ f r s)

-- one pair less, and the entry of another moves to its position
pub crossed-move : (f f' g g' : Grid) (x y : Cross) (c d e : ℕ) → Moves f f' x.row x.column y.row y.column (to c d x.weight) (to c e y.weight) (to c d y.weight) →
    Moves g g' c e c d (to y.row y.column y.weight) (to x.row x.column x.weight) (to y.row y.column y.weight) → AreCrossed f g → AreCrossed f' g'
crossed-move f f' g g' x y c d e m k old r s t u v =
    grind (arith, m.first, m.none, m.second, m.now, m.others r s, k.first, k.none, k.second, k.now, k.others t u, old r s t u v)

-- the entry that a name refers to
pub entry-back : (o : Option Weighted) (s i w : ℕ) → entry_cross o ≡ to s i w → o ≡ Some (record { form = s; index = i; coefficient = w })
entry-back None s i w h = cc
entry-back (Some e) s i w h = grind (arith, e.form, e.index, e.coefficient)

-- the term that an entry names
pub record TermNamed (o : Option Term) (r : Option ℕ) (p q w : ℕ) : Type 0 where
  pub term : Term
  pub is : o ≡ Some term
  pub spot : r ≡ Some q
  pub row : place term.literal ≡ p
  pub weight : term.coefficient ≡ w

term-back : (o : Option Term) (r : Option ℕ) (p q w : ℕ) → term_cross o r ≡ to p q w → TermNamed o r p q w
term-back None r p q w h = absurd cc
term-back (Some t) None p q w h = absurd cc
term-back (Some t) (Some k) p q w h = record { term = t; is = refl; spot = grind (arith, h); row = grind (arith, h); weight = grind (arith, h) }

pub named-term : (forms : List Shape) (spots : List (List ℕ)) (lists : List (List Weighted)) (p q : ℕ) (e : Weighted) → slice_get (get_or lists p []) q ≡ Some e → IsLinked forms spots lists → TermNamed (slice_get (terms_at forms e.form) e.index) (slice_get (get_or spots e.form []) e.index) p q e.coefficient
named-term forms spots lists p q e is old = term-back _ _ p q e.coefficient ((old.crossed e.form e.index p q e.coefficient).1 (ap entry_cross is))

pub named-spot : (forms : List Shape) (spots : List (List ℕ)) (lists : List (List Weighted)) (p q : ℕ) (e : Weighted) → slice_get (get_or lists p []) q ≡ Some e → IsLinked forms spots lists → (e.form < length spots) × (e.index < length (get_or spots e.form []))
named-spot forms spots lists p q e is old =
    let inner = slice_get_within (get_or spots e.form []) e.index q (named-term forms spots lists p q e is old).spot in
    (grind (arith, get_or_past, inner), inner)

-- the lists with and without the coefficients
pub entries-length : (forms : List Shape) (occ : List (List Occurrence)) → length (entries_of forms occ) ≡ length occ
entries-length forms occ = length-map occ (map (weighted forms))

pub entries-get : (forms : List Shape) (occ : List (List Occurrence)) (p : ℕ) → get_or (entries_of forms occ) p [] ≡ map (weighted forms) (get_or occ p [])
entries-get forms occ p = get-mapped (map (weighted forms)) occ p []

pub entry-weighted : (forms : List Shape) (occ : List (List Occurrence)) (p q : ℕ) (o : Occurrence) → slice_get (get_or occ p []) q ≡ Some o → slice_get (get_or (entries_of forms occ) p []) q ≡ Some (weighted forms o)
entry-weighted forms occ p q o h = grind (arith, entries-get forms occ p, slice_get-map (weighted forms) (get_or occ p []) q, h)

pub entries-size : (forms : List Shape) (occ : List (List Occurrence)) (p : ℕ) → length (get_or (entries_of forms occ) p []) ≡ length (get_or occ p [])
entries-size forms occ p = ap length (entries-get forms occ p) ∙ length-map (get_or occ p []) (weighted forms)

-- an entry that is removed, and the one that moves
entries-set : (forms : List Shape) (occ occ' : List (List Occurrence)) (p : ℕ) (os : List Occurrence) → occ' ≡ set occ p os → entries_of forms occ' ≡ set (entries_of forms occ) p (map (weighted forms) os)
entries-set forms occ occ' p os h = ap (entries_of forms) h ∙ map-set (map (weighted forms)) occ p os

pub entries-taken : (forms : List Shape) (occ occ' : List (List Occurrence)) (p q : ℕ) (o : Occurrence) → occ' ≡ set occ p (swap_remove (get_or occ p []) q o) → entries_of forms occ' ≡ set (entries_of forms occ) p (swap_remove (get_or (entries_of forms occ) p []) q (weighted forms o))
entries-taken forms occ occ' p q o h = grind (arith, entries-set forms occ occ' p (swap_remove (get_or occ p []) q o) h, swap-map, entries-get)

pub entries-pushed : (forms : List Shape) (occ occ' : List (List Occurrence)) (p : ℕ) (o : Occurrence) → occ' ≡ set occ p (get_or occ p [] ++ (o ∷ [])) → entries_of forms occ' ≡ set (entries_of forms occ) p (get_or (entries_of forms occ) p [] ++ (weighted forms o ∷ []))
entries-pushed forms occ occ' p o h = grind (arith, entries-set forms occ occ' p (get_or occ p [] ++ (o ∷ [])) h, map-append, entries-get)

pub item-taken : (forms : List Shape) (occ : List (List Occurrence)) (p q : ℕ) (o : Occurrence) → o ≡ get_or (get_or occ p []) q o → weighted forms o ≡ get_or (get_or (entries_of forms occ) p []) q (weighted forms o)
item-taken forms occ p q o is = grind (arith, is, entries-get forms occ p, get-mapped (weighted forms) (get_or occ p []) q o)

-- the term of an entry that is read
pub index-within : (forms : List Shape) (spots : List (List ℕ)) (occ : List (List Occurrence)) (p j : ℕ) (items : List Occurrence) (o : Occurrence) → get_or (entries_of forms occ) p [] ≡ map (weighted forms) items → o ≡ get_or items j o → j < length items → IsLinked forms spots (entries_of forms occ) → o.index < length (terms_at forms o.form)
index-within forms spots occ p j items o same item inside old =
    let at : slice_get (get_or (entries_of forms occ) p []) j ≡ Some (weighted forms o) = grind (arith, same, item, slice_get-map, slice_get-get_or items j o, inside) in
    slice_get_within (terms_at forms o.form) o.index _ (named-term forms spots (entries_of forms occ) p j (weighted forms o) at old).is

-- functions that agree on a list
pub map-agree : {X Y : Type 0} (f g : X → Y) (xs : List X) → All (λ x. f x ≡ g x) xs → map f xs ≡ map g xs
map-agree f g [] all = refl
map-agree f g (x ∷ xs) all = rw (all zero x (omega arith), map-agree f g xs (λ k d h. all (suc k) d (omega (arith, h)))) refl
