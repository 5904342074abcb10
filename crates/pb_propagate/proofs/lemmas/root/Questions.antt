-- Questions that continue from the root, about a constraint or about a clause by its literals.
use Rattle.{pb_normal.proofs.lemmas.terms.Maps.IsNormal-negation, pb_propagate.proofs.Common.RunVisitsEach, pb_propagate.proofs.Common.sum_by-le-sum_by}
use Rattle.pb_propagate.proofs.Common.{ℕ, ◌++◌, ◌+◌, ◌-◌, ◌<◌, ◌^◌, ◌∙◌, ◌∷◌, ◌≡◌, ◌≤◌, [], ap, arith, false, get_or, inl, inr, length, length-append, List}
use Rattle.pb_propagate.proofs.Common.{map, min, rules, refl, suc, true, zero, All, Contains, both_ways, get_or-map, length-map, Contains-append_left}
use Rattle.pb_propagate.proofs.Common.{Contains-push, Contains-push_cases, IsPermutation-refl, sum_by-cons, Entry, NumberedLiteral, each, Form, IsNormal, total}
use Rattle.pb_propagate.proofs.Common.{negation, negation_of, opposite, Term, AreJoined, joined, added, Adopted, AreFound, kept, AreDenied, denial_of}
use Rattle.pb_propagate.proofs.Common.{IsDisjunction, IsHit, IsOne, as_term, entry_of, IsStoredAs, broken, Conflicts, Derives, has, IsSettled, IsWithin}
use Rattle.pb_propagate.proofs.Common.{open_sum, opposed, put, Shape, AreSettled, none, ◌*◌, take, sum, sum_by, ext_get_or, get_or-take}
use Rattle.pb_propagate.proofs.Common.{get_or_append_left, get_or_default, get_or_past, get_or_push, length-take, map-append, take_all, sum_by-append, Long}
use Rattle.pb_propagate.proofs.Common.{Short, Clauses, Heads, heads_at, Rests, Run, Occurrence, Store, StoredForm, clauses_of, code_in, fallen, AreSingle}
use Rattle.pb_propagate.proofs.Common.{beside, IsTidy, IsUndone, place, spent, AreLonger, entries_of, IsSound, shapes_of, spots_of, stored_shape, Extends, size}
use Rattle.pb_propagate.proofs.Common.{RunSpends, UpdateCosts, list_of, values_of, Assignment, Bool, HaveReasons, IsAnswered, RunGains, RunRefutes, all_of}
use Rattle.pb_propagate.proofs.lemmas.{root.Rooted.derives-within, root.Rooted.owned, root.Rooted.root-short, root.Rooted.both-le, store.Stored.entries-size}
use Rattle.pb_propagate.proofs.lemmas.clauses.{Counts.IsOneSided, Counts.killed-both, Shapes.conflicts-joined, Shapes.joined-push}
use Rattle.pb_propagate.proofs.lemmas.engine.Literals.{derivation-single, one_itself, settled-of_terms, derivation-then, negation-negation, open_part-falsified}
use Rattle.pb_propagate.proofs.lemmas.engine.{Reasoned.reasons-derive, Rests.joined-terms, Advances.killed-longer, Advances.extends-then}
use Rattle.pb_propagate.proofs.lemmas.engine.Literals.{open_part-open, open_sum-lower, has-none, has-push_old, has-push_new, only-itself, opposite as one_sided}
use Rattle.pb_propagate.specs.{declared.engine.root.Root.Root, engine.engine.Root.HasUpdated, engine.engine.Root.IsStanding, engine.engine.Root.terms_of_all}

abbrev literal_of : Entry → NumberedLiteral
literal_of e = (as_term e).literal

denial-at : (goal : List Entry) (k : ℕ) (d : Entry) (t : Term) → k < length goal → get_or (map as_term (map opposite goal)) k t ≡ as_term (opposite (get_or goal k d))
denial-at goal k d t inside =
    get_or-map as_term (map opposite goal) k (opposite d) t (omega (arith, inside, length-map goal opposite)) ∙ ap as_term (get_or-map opposite goal k d (opposite d) inside)

denial-among : (goal : List Entry) (k : ℕ) (d : Entry) → k < length goal → All IsOne goal → Contains (denial_of goal).terms (record { literal = negation (literal_of (get_or goal k d)); coefficient = 1 })
denial-among goal k d inside light = (k, grind (arith, length-map), grind (arith, denial-at goal k d, light k d))

-- each term has the coefficient 1
denial-most : (list : List NumberedLiteral) (goal : List Entry) → All IsOne goal → open_sum list (map as_term (map opposite goal)) ≤ length goal
denial-most list [] light = omega arith
denial-most list (e ∷ es) light =
    let rest = denial-most list es (λ k d less. light (suc k) d (omega (arith, less))) in
    grind (arith, rest, light 0 e (omega arith), open_part-falsified, open_part-open, sum_by-cons)

-- a literal of the clause that is true takes 1
denial-hit : (list : List NumberedLiteral) (goal : List Entry) (k : ℕ) (d : Entry) → k < length goal → All IsOne goal → has list (literal_of (get_or goal k d)) ≡ true → open_sum list (map as_term (map opposite goal)) < length goal
denial-hit list goal k d inside light on =
    let among = denial-among goal k d inside light in
    let low = open_sum-lower [] list (λ j h. absurd (both_ways _ (has-none j) h)) _ _ among (has-none _) (grind (arith, negation-negation)) in
    omega (arith, low, denial-most [] goal light)

-- with all its literals false nothing is taken
denial-whole : (list : List NumberedLiteral) (goal : List Entry) → All IsOne goal → ((l : NumberedLiteral) → has list l ≡ true → has list (negation l) ≡ false) → AreDenied goal list → length goal ≤ open_sum list (map as_term (map opposite goal))
denial-whole list [] light sided denied = omega arith
denial-whole list (e ∷ es) light sided denied =
    let rest = denial-whole list es (λ k d less. light (suc k) d (omega (arith, less))) sided (λ k d less. denied (suc k) d (omega (arith, less))) in
    grind (arith, rest, light 0 e (omega arith), open_part-open, sided, denied 0 e (omega arith), sum_by-cons)

pub denial-settled : (list : List NumberedLiteral) (goal : List Entry) → All IsOne goal → ((l : NumberedLiteral) → has list l ≡ true → has list (negation l) ≡ false) → AreDenied goal list → IsSettled (denial_of goal) list
denial-settled list goal light sided denied = settled-of_terms (denial_of goal) list (denial-whole list goal light sided denied) (λ k d less low absent unfalsified.
    grind (arith, length-map, denied k, denial-at goal k (record { variable = 0; negated = false; coefficient = 0 })))

-- the negation of a literal is put by the negation of the clause
pub denied-next : (goal : List Entry) (start old new : List NumberedLiteral) (k : ℕ) (d : Entry) → k < length goal → All IsOne goal → Adopted (negation (literal_of (get_or goal k d))) old new → Derives (denial_of goal ∷ []) start old → Derives (denial_of goal ∷ []) start new
denied-next goal start old _ k d inside light (kept done) derived = derived
denied-next goal start old _ k d inside light (added absent opened) derived = put (negation (literal_of (get_or goal k d))) derived (search
    (rules, one_itself (denial_of goal), denial-among goal k d inside light, denial-most old goal light))

pub adopted-denied : (l : NumberedLiteral) (old new : List NumberedLiteral) → has old l ≡ false → Adopted (negation l) old new → has new (negation l) ≡ true
adopted-denied l old _ off (kept done) = grind (arith, negation-negation l)
adopted-denied l old _ off (added absent opened) = has-push_new old (negation l)

-- the literal is paid by its visit
pub adopted-found : (l : NumberedLiteral) (old new : List NumberedLiteral) (v u w : ℕ) → u ≡ min (v + 1) (2 ^ 64 - 1) → u ≤ w → Adopted l old new → AreFound (length old) (length new) v w
adopted-found l old _ v u w counted rising (kept done) = λ few. omega (arith, few, counted, rising)
adopted-found l old _ v u w counted rising (added absent opened) = λ few. omega (arith, few, counted, rising, length-append old (l ∷ []))

pub adopted-keeps : (l : NumberedLiteral) (old new : List NumberedLiteral) → Adopted l old new → IsWithin old new
adopted-keeps l old _ (kept done) = λ k h. h
adopted-keeps l old _ (added absent opened) = has-push_old old l

pub conflicts-within : (a b : List Shape) (list : List NumberedLiteral) → ((x : Shape) → Contains a x → Contains b x) → Conflicts a list → Conflicts b list
conflicts-within a b list more (opposed l here there) = opposed l here there
conflicts-within a b list more (broken f among low) = broken f (more f among) low

pub hit-conflicts : (forms : List Shape) (goal : List Entry) (list : List NumberedLiteral) (k : ℕ) (d : Entry) → k < length goal → All IsOne goal → IsHit forms list (literal_of (get_or goal k d)) → Conflicts (denial_of goal ∷ forms) list
hit-conflicts forms goal list k d inside light (inl on) = broken (denial_of goal) (0, omega arith, refl) (denial-hit list goal k d inside light on)
hit-conflicts forms goal list k d inside light (inr c) = conflicts-within forms (denial_of goal ∷ forms) list (λ x h. (suc h.0, omega (arith, h.1), h.2)) c

pub more-conflicts : (forms : List Shape) (x : Shape) (list : List NumberedLiteral) → Conflicts forms list → Conflicts (forms ++ (x ∷ [])) list
more-conflicts forms x list c = conflicts-within forms (forms ++ (x ∷ [])) list (Contains-append_left forms (x ∷ [])) c

-- the negation of the clause among all constraints
pub denied-conflicts : (xs : List Shape) (clauses : List (List ℕ)) (x : Shape) (list : List NumberedLiteral) → AreJoined xs clauses → Conflicts (x ∷ xs) list → Conflicts (joined xs clauses ++ (x ∷ [])) list
denied-conflicts xs clauses x list j (opposed l here there) = opposed l here there
denied-conflicts xs clauses x list j (broken f (zero, inside, is) low) = broken f (rw (← is) (Contains-push (joined xs clauses) x)) low
denied-conflicts xs clauses x list j (broken f (suc k, inside, is) low) = more-conflicts (joined xs clauses) x list (conflicts-joined xs clauses list j (broken f (k, omega (arith, inside), is) low))

pub more-settled : (forms : List Shape) (x : Shape) (list : List NumberedLiteral) → AreSettled forms list → IsSettled x list → AreSettled (forms ++ (x ∷ [])) list
more-settled forms x list all mine f among = grind (arith, Contains-push_cases forms x f among, all f)

pub denied-derives : (forms : List Shape) (x : Shape) (start mid new : List NumberedLiteral) → Derives (x ∷ []) start mid → Derives forms mid new → Derives (forms ++ (x ∷ [])) start new
denied-derives forms x start mid new first second =
    derivation-then _ _ mid _ (derives-within (x ∷ []) _ _ _ (λ y among. rw (← only-itself x y among) (Contains-push forms x)) first)
    (derives-within forms _ _ _ (Contains-append_left forms (x ∷ [])) second)

-- the negation of a clause is stored as the sum of its negated literals
entries-back : (es : List Entry) → map entry_of (map as_term es) ≡ es
entries-back [] = refl
entries-back (e ∷ es) = ap (λ xs. e ∷ xs) (entries-back es)

sum-light : (es : List Entry) → All IsOne es → total each es ≡ length es
sum-light [] light = refl
sum-light (e ∷ es) light = omega (arith, sum-light es (λ k d less. light (suc k) d (omega (arith, less))), light 0 e (omega arith))

pub denial-stored : (goal : Form) → IsNormal goal → IsDisjunction goal → IsStoredAs (negation_of goal) (denial_of goal.terms)
denial-stored goal normal d = record {
  terms = rw (entries-back (map opposite goal.terms)) (IsPermutation-refl (map opposite goal.terms));
  degree = omega (arith, sum-light goal.terms d.light, d.degree);
  normal = IsNormal-negation goal (omega (arith, d.degree)) normal;
}

-- ---- A question that continues from the root.
-- the root is no longer than the forms have terms
pub root-few : (store : Store) (clauses : Clauses) (a : Assignment) → IsSound store → AreJoined (shapes_of store.stored.items) (clauses_of clauses) →
    HaveReasons (all_of store clauses) a.reasons.items [] a.list.items → length a.list.items ≤ terms_of_all store clauses
root-few store clauses a sound j r =
    let shapes = shapes_of store.stored.items in
    let lists = entries_of shapes store.occurrences in
    let one : IsOneSided a.list.items = λ l. one_sided a.values.items a.list.items l a.agrees in
    let short = root-short shapes (spots_of store.spots) lists store.variables (clauses_of clauses) a.list.items sound (reasons-derive r) in
    let both = both-le lists a.list.items (derivation-single (all_of store clauses) [] a.list.items none (reasons-derive r)) one in
    omega (arith, short, both, killed-both (clauses_of clauses) a.list.items one, sound.whole.totals, joined-terms shapes (clauses_of clauses) j)

-- the shapes with one more form
pub entered-shapes : (keep keep' : List StoredForm) (k : StoredForm) → keep' ≡ keep ++ (k ∷ []) → shapes_of keep' ≡ shapes_of keep ++ (stored_shape k ∷ [])
entered-shapes keep keep' k keeps = ap shapes_of keeps ∙ map-append stored_shape keep (k ∷ [])

pub all-entered : (store store' : Store) (clauses : Clauses) (k : StoredForm) → store'.stored.items ≡ store.stored.items ++ (k ∷ []) →
    AreJoined (shapes_of store.stored.items) (clauses_of clauses) → all_of store' clauses ≡ all_of store clauses ++ (stored_shape k ∷ [])
all-entered store store' clauses k keeps j = grind (arith, entered-shapes store.stored.items store'.stored.items k keeps, joined-push, j.short)

-- One form more, which may be anything: it is as at rest.
pub entered-tidy : (rests : Rests) (forms : List Shape) (f : Shape) (list : List NumberedLiteral) → length rests.opens ≡ length forms →
    length rests.starts ≡ length forms →
    IsTidy (beside rests []) forms rests.opens rests.starts list [] [] 0 (length forms) →
    IsTidy (beside rests []) (forms ++ (f ∷ [])) (rests.opens ++ (size f.terms ∷ [])) (rests.starts ++ (0 ∷ [])) list [] [] 0 (length forms)
entered-tidy rests forms f list long starts t = grind (arith, get_or_append_left, get_or_push, get_or_past, length-append, t.calm, t.passed, t.bounded)

-- after a question each form is as it was
pub undone-same : (rests : Rests) (forms : List Shape) (opens cands : List ℕ) (n : ℕ) → IsUndone rests forms opens cands [] 0 → length forms ≡ n + 1 → length opens ≡ n + 1 → length cands ≡ n + 1 → length rests.opens ≡ n → length rests.starts ≡ n → (take (length opens - 1) opens ≡ rests.opens) × (take (length cands - 1) cands ≡ rests.starts)
undone-same rests forms opens cands n u long o c r s =
    let none : Shape = record { terms = []; degree = 0 } in
    (ext_get_or 0 _ _ (grind (arith, length-take)) (λ i less. grind (arith, get_or-take, length-take, u.clean i none, get_or_default)), ext_get_or 0 _ _ (grind (arith, length-take)) (λ i less. grind (arith, get_or-take, length-take, u.clean i none)))

-- each literal of the list was visited
pub found-after : (n v r : ℕ) → AreFound r n r v → n < 2 ^ 64 → n ≤ v
found-after n v r found small = grind (arith, found)

-- The number of visits: the literals of the root are true terms of the forms that forced them, and no true term is
-- falsified later.
pub question-most : (store : Store) (clauses : List (List ℕ)) (old new : List NumberedLiteral) (v w c : ℕ) → IsSound store → AreJoined (shapes_of store.stored.items) clauses → AreSingle new → IsOneSided new → Extends old new → Derives (joined (shapes_of store.stored.items) clauses) [] old → c ≤ sum_by (λ f. length f.terms) (shapes_of store.stored.items) →
    v ≤ length old + w + c + 2 * spent (entries_of (shapes_of store.stored.items) store.occurrences) new + 2 * fallen clauses new + sum_by length clauses →
    v ≤ 3 * sum_by (λ (f : Shape). length f.terms) (joined (shapes_of store.stored.items) clauses) + w
question-most store clauses old new v w c sound j single one (more, e) d bounded upper =
    let shapes = shapes_of store.stored.items in
    let lists = entries_of shapes store.occurrences in
    let short = root-short shapes (spots_of store.spots) lists store.variables clauses old sound d in
    let mine : owned lists old ≤ owned lists new = omega (arith, ap (owned lists) e, sum_by-append (λ l. length (get_or lists (place l) [])) old more) in
    omega (arith, upper, bounded, short, mine, killed-longer clauses (code_in Short) old new (more, e), killed-longer clauses (code_in Long) old new (more, e), both-le lists new single one, killed-both clauses new one, sound.whole.totals, joined-terms shapes clauses j)

-- what a question in two parts has found with one form more
pub both-answered : {shapes : List Shape} (x : Shape) (start mid done : Run) {visits : ℕ} {found : Bool} → start.visits ≡ length (list_of start) →
    RunVisitsEach start mid → RunGains mid done → done.visits ≡ visits →
    Derives shapes [] (list_of mid) → Derives (shapes ++ (x ∷ [])) (list_of mid) (list_of done) →
    (found ≡ true → Conflicts (shapes ++ (x ∷ [])) (list_of done)) → (found ≡ false → AreSettled (shapes ++ (x ∷ [])) (list_of done)) →
    IsAnswered (shapes ++ (x ∷ [])) visits found
both-answered {shapes} x start mid done {visits} {found} begun first second same d e conflict settled =
    let derived = derivation-then (shapes ++ (x ∷ [])) [] (list_of mid) (list_of done) (derives-within _ _ _ _ (Contains-append_left shapes (x ∷ [])) d) e in
    let few : length (list_of done) ≤ visits = grind (arith, done.assignment.list.ok, first, second.found, second.rising) in
    let sided = λ (l : NumberedLiteral). one_sided (values_of done) (list_of done) l done.assignment.agrees in search rules

-- as many entries are against a list of literals if lists got longer
spent-longer : (forms forms' : List Shape) (occ occ' : List (List Occurrence)) (list : List NumberedLiteral) → AreLonger occ occ' →
    spent (entries_of forms occ) list ≤ spent (entries_of forms' occ') list
spent-longer forms forms' occ occ' list h = sum_by-le-sum_by (λ l. length (get_or (entries_of forms occ) (place (negation l)) [])) (λ l. length (get_or (entries_of forms' occ') (place (negation l)) [])) list (λ l. omega (arith, h (place (negation l)), entries-size forms occ (place (negation l)), entries-size forms' occ' (place (negation l))))

-- the number of visits, if only the forms that wait were visited
pub updated-most : {store : Store} {clauses : Clauses} {old new : Root} → IsStanding store clauses old → old.run.visits ≡ length (list_of old.run) → UpdateCosts store clauses old new → new.run.visits ≤ 3 * terms_of_all store clauses + length old.waiting.list.items
updated-most {store} {clauses} {old} {new} s visits costs =
    let done = costs.ended in let u = costs.spends in
    let most = question-most store (clauses_of clauses) (list_of old.run) (list_of done) done.visits (length old.waiting.list.items) (sum done.candidates) s.sound s.joined u.single (λ l on. one_sided (values_of done) (list_of done) l done.assignment.agrees on) u.extends (reasons-derive s.rooted.reasoned) u.bounded (omega (arith, u.upper, visits, ap length s.rooted.work)) in
    omega (arith, most, costs.visits)

-- The visits of both parts of a question: what the first has read is not paid again.
pub posed-most : {store : Store} (store' : Store) {clauses between : Clauses} {old mid : Root} (start done : Run) (count : ℕ) → IsStanding store clauses old →
    old.run.visits ≡ length (list_of old.run) → HasUpdated store clauses between old mid →
    clauses_of between ≡ clauses_of clauses → AreLonger store.occurrences store'.occurrences → IsSound store' →
    AreJoined (shapes_of store'.stored.items) (clauses_of clauses) → Derives (all_of store' clauses) [] (list_of old.run) →
    list_of start ≡ list_of mid.run → sum start.candidates ≡ sum mid.run.candidates → start.visits ≡ mid.run.visits →
    RunRefutes store' mid.rests between count start done → done.visits ≤ 3 * terms_of_all store' clauses + (length old.waiting.list.items + count)
posed-most {store} store' {clauses} {between} {old} {mid} start done count s visits u same longer sound joined d list cands begun r =
    let more = spent-longer (shapes_of store.stored.items) (shapes_of store'.stored.items) store.occurrences store'.occurrences (list_of mid.run) longer in
    let extends = extends-then (list_of old.run) (list_of mid.run) (list_of done) u.pays.extends (rw list at r.extends) in
    let upper = rw (same, list) at r.upper in
    question-most store' (clauses_of clauses) (list_of old.run) (list_of done) done.visits (length old.waiting.list.items + count)
    (sum done.candidates) sound joined r.single (λ l on. one_sided (values_of done) (list_of done) l done.assignment.agrees on) extends d r.bounded
    (omega (arith, u.pays.upper, upper, more, cands, begun, visits, ap length s.rooted.work))

-- the cost of a propagation from a list that is walked and a single form
pub spends-refutes : (store : Store) (rests : Rests) (clauses : Clauses) (old new : Run) (at : Heads) → at ≡ heads_at (length (list_of old)) →
    length old.work.items ≤ 1 → RunSpends store rests clauses at [] old new → RunRefutes store rests clauses 1 old new
spends-refutes store rests clauses old new at heads few s =
    let whole = take_all (length (list_of old)) (list_of old) (omega arith) in
    let upper = rw (heads, whole) at s.upper in
    record { extends = s.extends; single = s.single; bounded = s.bounded; upper = omega (arith, upper, few) }
