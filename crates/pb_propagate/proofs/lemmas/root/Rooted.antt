-- Literals that forms force with nothing assumed: the last one is removed, or they are derived again from given literals.
use Rattle.pb_propagate.proofs.lemmas.{store.Stored.entry-back, clauses.Shapes.joined-source, clauses.Shapes.derives-joined, clauses.Shapes.conflicts-joined}
use Rattle.pb_propagate.{specs.engine.engine.Lists.has, specs.engine.engine.Reached.IsReached, proofs.Common.Shape, proofs.Common.rules, proofs.Common.broken}
use Rattle.pb_propagate.proofs.Common.{ℕ, ◌++◌, ◌+◌, ◌<◌, ◌∷◌, ◌≡◌, ◌≤◌, [], arith, Bool, false, get_or, length, length-append, length-set, List, min, None}
use Rattle.pb_propagate.proofs.Common.{set, subst, take, Option, sum_by, cases_Bool, length-take-le, set_past, take_all, take_more, sum_by-set, NumberedLiteral}
use Rattle.pb_propagate.proofs.Common.{has, vacancy, sym, negation, says, true, ◌∙◌, ap, get_or-set_other, inl, inr, map, refl, Contains, slice_get, opposed}
use Rattle.pb_propagate.proofs.Common.{slice_index_or, Some, get_or-map, get_or_default, length-map, sum_by_push, slice_get-get_or, slice_get_within, Long, put}
use Rattle.pb_propagate.proofs.Common.{Short, Term, list_at, code_in, joined, one_term, AreSingle, more, none, place, spent, IsStored, terms_at, begin, Derives}
use Rattle.{pb_propagate.proofs.Common.Puts, std.proofs.lemmas.Grind.get_or-set_at, std.proofs.lemmas.List.take-take, std.specs.Cmp.both_ways as same_answers}
use Rattle.pb_propagate.proofs.Common.{Weighted, IfNone, both_ways, AreJoined, Conflicts, IsSettled, IsWithin, HasClash, HasEnded, IsMade, derived, IsRefuted}
use Rattle.pb_propagate.proofs.lemmas.clauses.{Literals.code-of, Counts.IsOneSided, Counts.occurs, Counts.risen, Counts.risen-push, Counts.occurs-some}
use Rattle.pb_propagate.proofs.lemmas.engine.Literals.{has-push_old, has-push_new, has-push_cases, Agree, Forgotten, has-elsewhere, has-neither, says-apart}
use Rattle.pb_propagate.proofs.lemmas.engine.Literals.{says-none, says-inside, opposite, forget-next, forget-none, vacancy-none, has-get, lists-clear}
use Rattle.pb_propagate.proofs.lemmas.engine.Literals.{place-injective, negation-negation, puts-other, sum_by-agree, derivation-then, derivation-keeps}
use Rattle.pb_propagate.proofs.lemmas.engine.Literals.{has-none, push-within, open_sum-within, open_sum-lower}

-- a list has a literal for each variable with a value, so it is at least as long
pub long-enough : (values : List (Option Bool)) (list : List NumberedLiteral) → Forgotten values list → length values ≤ length list + sum_by vacancy values
long-enough values [] f = omega (arith, vacancy-none values (forget-none values [] 0 (omega arith) f))
long-enough values (l ∷ list) f =
    let rest = long-enough (set values l.variable None) list (forget-next values (l ∷ list) 0 l (omega arith) f) in
    grind (arith, rest, length-set values l.variable None, sum_by-set vacancy values l.variable None None, set_past values l.variable None)

-- each literal of a list with room for all is on it once
pub last-fresh : (values : List (Option Bool)) (xs : List NumberedLiteral) (l : NumberedLiteral) → Agree values (xs ++ (l ∷ [])) → length (xs ++ (l ∷ [])) + sum_by vacancy values ≡ length values → has xs l ≡ false
last-fresh values xs l a room = grind (arith, long-enough, has-push_cases, length-append, cases_Bool (has xs l))

pub absent-before : (xs : List NumberedLiteral) (l k : NumberedLiteral) → has (xs ++ (l ∷ [])) k ≡ false → has xs k ≡ false
absent-before xs l k h = grind (arith, has-push_old xs l k)

pub Agree-pop : (values : List (Option Bool)) (xs : List NumberedLiteral) (l : NumberedLiteral) → Agree values (xs ++ (l ∷ [])) → has xs l ≡ false → Agree (set values l.variable None) xs
Agree-pop values xs l a fresh k =
    let on : says values l ≡ true = sym (a l) ∙ has-push_new xs l in
    let opposed : has xs (negation l) ≡ false = absent-before xs l (negation l) (opposite values (xs ++ (l ∷ [])) l a (has-push_new xs l)) in
    grind (arith, has-elsewhere xs l k, a k, says-apart values l.variable None k, has-neither xs l k fresh opposed, says-none (set values l.variable None) k, get_or-set_at values l.variable k.variable None None, says-inside values l on)

pub vacancy-pop : (values : List (Option Bool)) (xs : List NumberedLiteral) (l : NumberedLiteral) → Agree values (xs ++ (l ∷ [])) → sum_by vacancy (set values l.variable None) ≡ sum_by vacancy values + 1
vacancy-pop values xs l a = grind (arith, a l, has-push_new, says-none values l, sum_by-set vacancy values l.variable None None, says-inside values l)

-- a list cut to its first literals, and its values
pub record IsCut (values0 : List (Option Bool)) (list0 : List NumberedLiteral) (count : ℕ) (values : List (Option Bool)) (list : List NumberedLiteral) : Type 0 where
  pub agrees : Agree values list
  pub room : length list + sum_by vacancy values ≡ length values
  pub sizes : length values ≡ length values0
  pub first : list ≡ take (length list) list0
  pub within : length list ≤ length list0
  pub enough : min count (length list0) ≤ length list

pub last-split : (list : List NumberedLiteral) (n : ℕ) (l : NumberedLiteral) → length list ≡ n + 1 → l ≡ get_or list n l → list ≡ take n list ++ (l ∷ [])
last-split list n l e is = grind (arith, take_all, take_more)

pub cut-inside : (values0 : List (Option Bool)) (list0 : List NumberedLiteral) (count : ℕ) (values : List (Option Bool)) (list : List NumberedLiteral) (n : ℕ) (l : NumberedLiteral) → length list ≡ n + 1 → l ≡ get_or list n l → IsCut values0 list0 count values list → l.variable < length values
cut-inside values0 list0 count values list n l e is c = grind (arith, c.agrees l, has-get list n l, says-inside values l)

pub cut-next : (values0 : List (Option Bool)) (list0 : List NumberedLiteral) (count : ℕ) (values : List (Option Bool)) (list : List NumberedLiteral) (n : ℕ) (l : NumberedLiteral) → count < length list → length list ≡ n + 1 → l ≡ get_or list n l → IsCut values0 list0 count values list → IsCut values0 list0 count (set values l.variable None) (take n list)
cut-next values0 list0 count values list n l longer e is c =
    let split = last-split list n l e is in
    let agree = subst (Agree values) split c.agrees in
    let fresh = last-fresh values (take n list) l agree (subst (λ xs. length xs + sum_by vacancy values ≡ length values) split c.room) in
    let agrees = Agree-pop values (take n list) l agree fresh in
    grind (arith, agrees, vacancy-pop values (take n list) l agree, length-set values l.variable None, length-take-le n list, c.first, take-take n (length list) list0)

-- ---- Literals that forms force with nothing assumed.
-- a derivation holds among more constraints
pub derives-within : (a b : List Shape) (given list : List NumberedLiteral) → ((x : Shape) → Contains a x → Contains b x) → Derives a given list → Derives b given list
derives-within a b given _ h begin = begin
derives-within a b given _ h (put {list} l d m) = put l (derives-within a b given list h d) (puts-other a b list l m (h m.form m.among))

-- the number of entries in the lists of a list's literals
abbrev pub owned : List (List Weighted) → List NumberedLiteral → ℕ
owned lists list = sum_by (λ l. length (slice_index_or lists (place l) [])) list

-- a term has an entry
pub term-entry : {forms : List Shape} {spots : List (List ℕ)} {lists : List (List Weighted)} {variables : ℕ} (s k : ℕ) (t : Term) → IsStored forms spots lists variables → s < length forms → slice_get (terms_at forms s) k ≡ Some t → (j : ℕ) × (e : Weighted) × (slice_get (get_or lists (place t.literal) []) j ≡ Some e) × (e.form ≡ s)
term-entry {forms} {spots} {lists} {variables} s k t stored inside at =
    let q = get_or (get_or spots s []) k 0 in
    let spot : slice_get (get_or spots s []) k ≡ Some q = slice_get-get_or _ k 0 (omega (arith, stored.rooms s inside, slice_get_within (terms_at forms s) k t at)) in
    (q, record { form = s; index = k; coefficient = t.coefficient }, entry-back _ s k t.coefficient ((stored.whole.crossed s k (place t.literal) q t.coefficient).0 (rw (at, spot) refl)), refl)

-- a literal of a stored form has an entry
pub stored-listed : (forms : List Shape) (spots : List (List ℕ)) (lists : List (List Weighted)) (variables : ℕ) (f : Shape) (l : NumberedLiteral) (c : ℕ) → IsStored forms spots lists variables → Contains forms f → Contains f.terms (record { literal = l; coefficient = c }) → 1 ≤ length (get_or lists (place l) [])
stored-listed forms spots lists variables f l c stored (s, inside, is) (i, within, at) =
    let t : Term = record { literal = l; coefficient = c } in
    let term : slice_get (terms_at forms s) i ≡ Some t = grind (arith, get_or_default, slice_get-get_or) in
    grind (arith, slice_get_within, term-entry s i t stored inside term)

-- a literal of a clause occurs
pub clause-occurs : (clauses : List (List ℕ)) (s : ℕ) (l : NumberedLiteral) (c : ℕ) → 0 < length (list_at clauses s) → Contains (map one_term (list_at clauses s)) (record { literal = l; coefficient = c }) → 1 ≤ occurs clauses (code_in Short l) + occurs clauses (code_in Long l)
clause-occurs clauses s l c some (k, within, at) =
    let x = get_or (list_at clauses s) k 0 in
    let inside : k < length (list_at clauses s) = omega (arith, within, length-map (list_at clauses s) one_term) in
    let one = sym (get_or-map one_term (list_at clauses s) k 0 (record { literal = l; coefficient = c }) inside) ∙ at in
    grind (arith, occurs-some clauses s x some (k, inside, get_or_default _ k x 0 inside), code-of x, ap (λ (y : Term). y.literal) one)

-- a literal that was put has an entry, or occurs in a clause
pub puts-owned : (forms : List Shape) (spots : List (List ℕ)) (lists : List (List Weighted)) (variables : ℕ) (clauses : List (List ℕ)) (list : List NumberedLiteral) (l : NumberedLiteral) → IsStored forms spots lists variables → Puts (joined forms clauses) list l → 1 ≤ length (get_or lists (place l) []) + (occurs clauses (code_in Short l) + occurs clauses (code_in Long l))
puts-owned forms spots lists variables clauses list l stored m = elim (joined-source forms clauses m.form m.among) [
  | inl among ↦ omega (arith, stored-listed forms spots lists variables m.form l m.coefficient stored among m.term)
  | inr clause ↦ omega (arith, clause-occurs clauses clause.0 l m.coefficient clause.1 (rw (← clause.2) at m.term))
]

-- there are no more literals than entries and occurrences
pub root-short : (forms : List Shape) (spots : List (List ℕ)) (lists : List (List Weighted)) (variables : ℕ) (clauses : List (List ℕ)) (list : List NumberedLiteral) → IsStored forms spots lists variables → Derives (joined forms clauses) [] list → length list ≤ owned lists list + risen clauses list
root-short forms spots lists variables clauses _ stored begin = omega arith
root-short forms spots lists variables clauses _ stored (put {list} l d m) =
    let here = puts-owned forms spots lists variables clauses list l stored m in
    let entries = sum_by_push (λ k. length (get_or lists (place k) [])) list l in
    omega (arith, root-short forms spots lists variables clauses list stored d, here, entries, risen-push clauses list l m.absent, length-append list (l ∷ []))

-- the lists of a literal and of its negation, which are different lists, are emptied
abbrev without : List (List Weighted) → NumberedLiteral → List (List Weighted)
without lists l = set (set lists (place (negation l)) []) (place l) []

without-other : (lists : List (List Weighted)) (l k : NumberedLiteral) → (k ≡ l → ⊥) → (k ≡ negation l → ⊥) → length (get_or lists (place k) []) ≡ length (get_or (without lists l) (place k) [])
without-other lists l k n m = grind (arith, get_or-set_other, place-injective)

not-itself : (l : NumberedLiteral) → place l ≡ place (negation l) → ⊥
not-itself l e = grind arith

without-total : (lists : List (List Weighted)) (l : NumberedLiteral) → sum_by length (without lists l) + length (get_or lists (place (negation l)) []) + length (get_or lists (place l) []) ≡ sum_by length lists
without-total lists l = grind (arith, lists-clear, get_or-set_other, not-itself)

pub one_sided-before : (list : List NumberedLiteral) (l : NumberedLiteral) → IsOneSided (list ++ (l ∷ [])) → IsOneSided list
one_sided-before list l one k h = absent-before list l (negation k) (one k (has-push_old list l k h))

pub both-le : (lists : List (List Weighted)) (list : List NumberedLiteral) → AreSingle list → IsOneSided list → spent lists list + owned lists list ≤ sum_by length lists
both-le lists _ none one = omega arith
both-le lists _ (more {list} l d absent) one =
    let opposed : has list (negation l) ≡ false = absent-before list l (negation l) (one l (has-push_new list l)) in
    let other : (k : NumberedLiteral) → has list k ≡ true → (length (get_or lists (place k) []) ≡ length (get_or (without lists l) (place k) [])) × (length (get_or lists (place (negation k)) []) ≡ length (get_or (without lists l) (place (negation k)) [])) = λ k h. (without-other lists l k (λ e. grind arith) (λ e. grind arith), without-other lists l (negation k) (λ e. grind (arith, negation-negation)) (λ e. grind (arith, negation-negation))) in
    let a : spent lists list ≡ spent (without lists l) list = sum_by-agree _ _ list (λ k h. (other k h).1) in
    let b : owned lists list ≡ owned (without lists l) list = sum_by-agree _ _ list (λ k h. (other k h).0) in
    grind (arith, both-le (without lists l) list d (one_sided-before list l one), a, b, sum_by_push, without-total lists l)

-- ---- What the root forces is derived again from given literals, which may be opposite to some of it.
-- A derivation to a list, made again from other literals: it comes to all of the list, or to a conflict before that.
-- Under `One` all literals are on a list without opposite ones, and there is no conflict.
pub data Planted (forms : List Shape) (given list all : List NumberedLiteral) (One : Type 0) : Type 0 where
  grown : (whole : List NumberedLiteral) → Derives forms given whole → IsWithin list whole → (One → IsWithin whole all) → Planted forms given list all One
  clashed : (whole : List NumberedLiteral) → Derives forms given whole → Conflicts forms whole → (One → ⊥) → Planted forms given list all One

-- what may be put still may on a longer list, unless its variable has a value
puts-longer : (forms : List Shape) (a b : List NumberedLiteral) (l : NumberedLiteral) → IsWithin a b → has b l ≡ false → has b (negation l) ≡ false → Puts forms a l → Puts forms b l
puts-longer forms a b l within absent free m = grind (arith, m.among, m.term, open_sum-within, m.form.terms, m.forced)

planted : (forms : List Shape) (a b given all : List NumberedLiteral) (One : Type 0) → (One → IsOneSided all × IsWithin given all × IsWithin b all) → IsWithin a given →
    Derives forms a b → Planted forms given b all One
planted forms a _ given all One bound within begin = grown given begin within (λ o. (bound o).1)
planted forms a _ given all One bound within (put {list} l d m) =
    by (planted forms a list given all One (λ o. ((bound o).0, (bound o).1, λ k on. (bound o).2 k (has-push_old list l k on))) within d)
  where
    by : Planted forms given list all One → Planted forms given (list ++ (l ∷ [])) all One
    by (clashed whole dv c never) = clashed whole dv c never
    by (grown whole dv longer from) = elim (cases_Bool (has whole l)) [
      | inl there ↦ grown whole dv (push-within list whole l longer there) from
      | inr absent ↦ elim (cases_Bool (has whole (negation l))) [
        | inl against ↦
            let low = open_sum-lower list whole longer m.form.terms (record { literal = l; coefficient = m.coefficient }) m.term m.not_falsified against in
            clashed whole dv (broken m.form m.among (omega (arith, low, m.forced)))
            (λ o. both_ways _ ((bound o).0 l ((bound o).2 l (has-push_new list l))) (from o (negation l) against))
        | inr free ↦
            grown (whole ++ (l ∷ [])) (put l dv (puts-longer forms list whole l longer absent free m))
            (push-within list (whole ++ (l ∷ [])) l (λ k h. has-push_old whole l k (longer k h)) (has-push_new whole l))
            (λ o. push-within whole all l (from o) ((bound o).2 l (has-push_new list l)))
      ]
    ]

-- what was derived after the root is derived from the given literals alone
replanted : (forms : List Shape) (root given list all : List NumberedLiteral) (One : Type 0) → (One → IsOneSided all × IsWithin given all × IsWithin root all) →
    (One → IsWithin list all) → Derives forms [] root → IsReached forms root given list → Planted forms given list all One
replanted forms root given list all One bound mine d r = by (planted forms [] root given all One bound (λ l on. absurd (both_ways _ (has-none l) on)) d)
  where
    by : Planted forms given root all One → Planted forms given list all One
    by (clashed whole dv c never) = clashed whole dv c never
    by (grown whole dv longer from) =
        let first : IsWithin r.first whole = λ l on. elim (r.within l on) [ inl a ↦ longer l a | inr b ↦ derivation-keeps forms given whole dv l b ] in
        more (planted forms r.first list whole all One (λ o. ((bound o).0, from o, mine o)) first r.derived)
      where
        more : Planted forms whole list all One → Planted forms given list all One
        more (clashed last dl c never) = clashed last (derivation-then forms given whole last dv dl) c never
        more (grown last dl over since) = grown last (derivation-then forms given whole last dv dl) over since

conflicts-longer : (forms : List Shape) (a b : List NumberedLiteral) → IsWithin a b → Conflicts forms a → Conflicts forms b
conflicts-longer forms a b within (opposed l here there) = opposed l (within l here) (within (negation l) there)
conflicts-longer forms a b within (broken f among low) = broken f among (omega (arith, low, open_sum-within a b within f.terms))

-- a conflict after literals that are forced, or given
pub clash-refuted : (forms : List Shape) (root given : List NumberedLiteral) → Derives forms [] root → HasClash forms root given → (list : List NumberedLiteral) × IsRefuted forms given list
clash-refuted forms root given d clash = by (replanted forms root given clash.list [] ⊥ (λ n. absurd n) (λ n. absurd n) d clash.reached)
  where
    by : Planted forms given clash.list [] ⊥ → (list : List NumberedLiteral) × IsRefuted forms given list
    by (clashed whole dv c never) = (whole, derived (record { first = given; within = λ l h. h; covers = λ l h. h; derived = dv }) c)
    by (grown w dv longer from) = (w, derived (record { first = given; within = λ l h. h; covers = λ l h. h; derived = dv }) (conflicts-longer forms clash.list w longer clash.conflict))

-- lists with the same literals settle the same forms
settled-same : (f : Shape) (a b : List NumberedLiteral) → IsWithin a b → IsWithin b a → IsSettled f a → IsSettled f b
settled-same f a b ab ba s = grind (arith, s.met, s.idle, open_sum-within b a ba f.terms, puts-longer (f ∷ []) b a, ab, ba)

-- without a conflict, and with all of these literals
pub ended-made : (forms : List Shape) (root given : List NumberedLiteral) (values : List (Option Bool)) → Derives forms [] root → HasEnded forms root given values → IsMade forms given values
ended-made forms root given values d h =
    let e = h.covered in
    by (replanted forms root given h.list h.list (Unit {0}) (λ u. (λ l. opposite values h.list l h.agrees, e.covers, e.keeps)) (λ u l on. on) d e.reached)
  where
    by : Planted forms given h.list h.list (Unit {0}) → IsMade forms given values
    by (clashed whole dv c never) = absurd (never tt)
    by (grown whole dv longer from) =
        let settled = λ (f : Shape) (among : Contains forms f). settled-same f h.list whole longer (from tt) (h.covered.settled f among) in
        let agrees = λ (l : NumberedLiteral). same_answers (has whole l) (has h.list l) (from tt l) (longer l) ∙ h.agrees l in
        search (rules, dv, settled, agrees)

-- the same over all constraints
pub clash-joined : (xs : List Shape) (clauses : List (List ℕ)) (root given : List NumberedLiteral) → AreJoined xs clauses → HasClash xs root given → HasClash (joined xs clauses) root given
clash-joined xs clauses root given j c =
    let derives = derives-joined xs clauses c.reached.first c.list j c.reached.derived in
    search (rules, derives, c.reached.within, conflicts-joined xs clauses c.list j c.conflict)

-- a conflict of the root alone
pub root-clash : (forms : List Shape) (root given : List NumberedLiteral) → Conflicts forms root → HasClash forms root given
root-clash forms root given c =
    let reached : IsReached forms root given root = record { first = root; within = λ l h. inl h; derived = begin } in
    search (rules, reached, c)

-- what holds if a test has no result
pub map-none : {A : Type 0} {P Q : Type 0} (o : Option A) → (P → Q) → IfNone o P → IfNone o Q
map-none None f h = f h
map-none (Some x) f h = tt
