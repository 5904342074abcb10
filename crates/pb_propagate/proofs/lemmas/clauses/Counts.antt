-- How many visits there are: the occurrences, in clauses, of the literals on a list, and of their negations.
use Rattle.pb_propagate.proofs.Common.{AreStored, Bool, Contains, Group, List, Long, NumberedLiteral, Short, Sits, Watch, [], ap, arith, both_ways, code_in}
use Rattle.pb_propagate.proofs.Common.{cond, count_by, count_by-le-length, eq-eqb, eqb-true, fallen, false, falsified_code, get_or, get_or-le-sum_by}
use Rattle.pb_propagate.proofs.Common.{get_or-map, get_or-set_other, get_or_past, inl, inr, length, list_at, map, map-append, nat_tests, negation, or_cases}
use Rattle.pb_propagate.proofs.Common.{or_left, or_right, refl, rules, same, set, slice_get-get_or, suc, sum, sum-map, sum_by, sum_by-cons, sum_by-le-sum_by}
use Rattle.pb_propagate.proofs.Common.{sum_by-set, sym, true, watch_at, ℕ, ◌++◌, ◌+◌, ◌/◌, ◌<◌, ◌==◌, ◌||◌, ◌∙◌, ◌∷◌, ◌≡◌, ◌≤◌}
use Rattle.pb_propagate.proofs.lemmas.{clauses.Visited.slot-within, engine.Literals.same-refl}
use Rattle.pb_propagate.proofs.lemmas.clauses.Literals.{code-injective, groups-apart, same-slot}
use Rattle.pb_propagate.specs.engine.{clauses.Walked.has as stands, clauses.Walked.killed, engine.Lists.has}

-- numbers with different values, each of which stands a weight: there are no more of them than the sum of the weights
pigeons : (f : ℕ → ℕ) (xs ws : List ℕ) → ((i j : ℕ) → i < j → j < length xs → f (get_or xs i 0) ≡ f (get_or xs j 0) → ⊥) →
    ((i : ℕ) → i < length xs → 1 ≤ get_or ws (f (get_or xs i 0)) 0) → length xs ≤ sum ws
pigeons f [] ws single weighs = omega arith
pigeons f (x ∷ xs) ws single weighs =
    let heavy : 1 ≤ get_or ws (f x) 0 = weighs 0 (omega arith) in
    let changed = sum_by-set (λ y. y) ws (f x) 0 0 (room heavy) in
    let rest = pigeons f xs (set ws (f x) 0) (λ i j less inside. single (suc i) (suc j) (omega (arith, less)) (omega (arith, inside)))
    (λ i h. omega (
      arith,
      weighs (suc i) (omega (arith, h)),
      get_or-set_other ws (f x) (f (get_or xs i 0)) 0 0 (λ is. single 0 (suc i) (omega arith) (omega (arith, h)) (sym is)),
    )) in
    omega (arith, heavy, changed, rest)
  where
    room : 1 ≤ get_or ws (f x) 0 → f x < length ws
    room heavy = grind (arith, get_or_past)

-- how often a literal occurs
abbrev pub occurs : List (List ℕ) → ℕ → ℕ
occurs clauses l = sum_by (λ xs. count_by (λ x. l == x) xs) clauses

count-some : (xs : List ℕ) (l : ℕ) → Contains xs l → 1 ≤ count_by (λ x. l == x) xs
count-some xs l (k, inside, is) = grind (arith, eq-eqb, get_or-le-sum_by)

-- a literal's list is no longer than the number of times that the literal occurs
pub list-short : (clauses : List (List ℕ)) (ws : List Watch) (ls : List (List ℕ)) (l : ℕ) → AreStored clauses ws ls → length (list_at ls l) ≤ occurs clauses l
list-short clauses ws ls l stored = omega (arith, pigeons (λ e. e / 2) (list_at ls l) (map weight clauses) single heavy, sum-map weight clauses)
  where
    weight : List ℕ → ℕ
    weight xs = count_by (λ x. l == x) xs

    entry : (i : ℕ) → i < length (list_at ls l) → Sits (watch_at ws (get_or (list_at ls l) i 0)) l i
    entry i inside = stored.linked.named (get_or (list_at ls l) i 0) l i (slice_get-get_or (list_at ls l) i 0 inside)

    single : (i j : ℕ) → i < j → j < length (list_at ls l) → get_or (list_at ls l) i 0 / 2 ≡ get_or (list_at ls l) j 0 / 2 → ⊥
    single i j less inside same =
        let a = entry i (omega (arith, less, inside)) in
        let b = entry j inside in
        let flips = same-slot (get_or (list_at ls l) i 0) (get_or (list_at ls l) j 0) same
        (λ is. absurd (omega (arith, less, ap (λ e. (watch_at ws e).spot) is, a.spot, b.spot))) in
        stored.apart (get_or (list_at ls l) j 0) b.live (ap (λ e. (watch_at ws e).literal) (sym flips) ∙ a.literal ∙ sym b.literal)

    heavy : (i : ℕ) → i < length (list_at ls l) → 1 ≤ get_or (map weight clauses) (get_or (list_at ls l) i 0 / 2) 0
    heavy i inside =
        let e = get_or (list_at ls l) i 0 in
        let at = entry i inside in
        let weighs = get_or-map weight clauses (e / 2) [] 0 (slot-within clauses ws ls e stored at.live) in
        omega (arith, weighs, count-some (list_at clauses (e / 2)) l (rw at.literal at (stored.watched e at.live)))

stands-append : (a b : List ℕ) (x : ℕ) → stands (a ++ b) x ≡ (stands a x || stands b x)
stands-append [] b x = refl
stands-append (y ∷ ys) b x = grind (arith, stands-append ys b x)

one-more : (walked : List ℕ) (l x : ℕ) → stands walked l ≡ false → cond (stands (walked ++ (l ∷ [])) x) 1 0 ≡ cond (stands walked x) 1 0 + cond (l == x) 1 0
one-more walked l x fresh = grind (arith, stands-append walked (l ∷ []) x, nat_tests, eqb-true)

-- sums of terms
sums-split : {X : Type 0} (f g h : X → ℕ) (xs : List X) → ((x : X) → h x ≡ f x + g x) → sum_by h xs ≡ sum_by f xs + sum_by g xs
sums-split f g h [] each = refl
sums-split f g h (x ∷ xs) each = omega (arith, sums-split f g h xs each, each x, sum_by-cons f x xs, sum_by-cons g x xs, sum_by-cons h x xs)

sums-join : {X : Type 0} (f g h : X → ℕ) (xs : List X) → ((x : X) → f x + g x ≤ h x) → sum_by f xs + sum_by g xs ≤ sum_by h xs
sums-join f g h xs each = omega (arith, sums-split f g (λ x. f x + g x) xs (λ x. refl), sum_by-le-sum_by (λ x. f x + g x) h xs each)

pub killed-more : (clauses : List (List ℕ)) (walked : List ℕ) (l : ℕ) → stands walked l ≡ false →
    killed clauses (walked ++ (l ∷ [])) ≡ killed clauses walked + occurs clauses l
killed-more clauses walked l fresh = search (rules, sums-split, one-more)

-- the positions that searches have passed
pub passed-most : (ps : List ℕ) (clauses : List (List ℕ)) → ((s : ℕ) → get_or ps s 0 ≤ length (list_at clauses s)) → sum ps ≤ sum_by length clauses
passed-most [] clauses h = omega arith
passed-most (p ∷ ps) [] h = omega (arith, passed-most ps [] (λ s. h (suc s)), h 0, sum_by-cons (λ x. x) p ps)
passed-most (p ∷ ps) (xs ∷ clauses) h =
    omega (arith, passed-most ps clauses (λ s. h (suc s)), h 0, sum_by-cons (λ (ys : List ℕ). length ys) xs clauses, sum_by-cons (λ x. x) p ps)

-- a list and its negations have no literal in common
abbrev pub IsOneSided : List NumberedLiteral → Type 0
IsOneSided list = (l : NumberedLiteral) → has list l ≡ true → has list (negation l) ≡ false

-- a number of a mapped list comes from a literal
stands-source : (f : NumberedLiteral → ℕ) (xs : List NumberedLiteral) (x : ℕ) → stands (map f xs) x ≡ true → (l : NumberedLiteral) × (has xs l ≡ true) × (f l ≡ x)
unfolding has
stands-source f [] x h = absurd (both_ways _ refl h)
stands-source f (k ∷ xs) x h = elim (or_cases (f k == x) (stands (map f xs) x) h) [
  | inl is ↦ (k, or_left (same k k) (has xs k) (same-refl k), eqb-true (f k) x is)
  | inr old ↦ let w = stands-source f xs x old in (w.0, or_right (same k w.0) (has xs w.0) w.1, w.2)
]

-- the numbers of a list lack those of other literals
pub stands-fresh : (f : NumberedLiteral → ℕ) (xs : List NumberedLiteral) (l : NumberedLiteral) → ((k : NumberedLiteral) → f k ≡ f l → k ≡ l) → has xs l ≡ false → stands (map f xs) (f l) ≡ false
stands-fresh f xs l one absent = grind (arith, stands-source, both_ways)

-- the occurrences, in clauses, of the literals on a list
abbrev pub risen : List (List ℕ) → List NumberedLiteral → ℕ
risen clauses list = killed clauses (map (code_in Short) list) + killed clauses (map (code_in Long) list)

-- one more literal on the list
pub risen-push : (clauses : List (List ℕ)) (xs : List NumberedLiteral) (l : NumberedLiteral) → has xs l ≡ false → risen clauses (xs ++ (l ∷ [])) ≡ risen clauses xs + (occurs clauses (code_in Short l) + occurs clauses (code_in Long l))
risen-push clauses xs l absent =
    omega (arith, one Short, one Long)
  where
    one : (g : Group) → killed clauses (map (code_in g) (xs ++ (l ∷ []))) ≡ killed clauses (map (code_in g) xs) + occurs clauses (code_in g l)
    one g = ap (killed clauses) (map-append (code_in g) xs (l ∷ [])) ∙ killed-more clauses (map (code_in g) xs) (code_in g l) (stands-fresh (code_in g) xs l (λ k. code-injective g k l) absent)

-- what is counted by two tests that nothing passes both is counted by either
bit-join : (a b : Bool) → (a ≡ true → b ≡ true → ⊥) → cond a 1 0 + cond b 1 0 ≤ cond (a || b) 1 0
bit-join a b h = grind arith

killed-join : (clauses : List (List ℕ)) (a b : List ℕ) → ((x : ℕ) → stands a x ≡ true → stands b x ≡ true → ⊥) → killed clauses a + killed clauses b ≤ killed clauses (a ++ b)
killed-join clauses a b h = search (rules, sums-join, stands-append, bit-join)

-- no code is both of a literal of the list and of a negation
codes-apart : (g : Group) (list : List NumberedLiteral) (x : ℕ) → IsOneSided list → stands (map (falsified_code g) list) x ≡ true → stands (map (code_in g) list) x ≡ true → ⊥
codes-apart g list x one a b = grind (arith, stands-source, code-injective, both_ways)

-- nor of both groups
split-apart : (p q : NumberedLiteral → NumberedLiteral) (list : List NumberedLiteral) (x : ℕ) → stands (map (λ l. code_in Short (p l)) list) x ≡ true → stands (map (λ l. code_in Long (q l)) list) x ≡ true → ⊥
split-apart p q list x a b = grind (arith, stands-source, groups-apart)

pub killed-both : (clauses : List (List ℕ)) (list : List NumberedLiteral) → IsOneSided list → fallen clauses list + risen clauses list ≤ sum_by length clauses
killed-both clauses list one =
    let fs = map (falsified_code Short) list in
    let fl = map (falsified_code Long) list in
    let rs = map (code_in Short) list in
    let rl = map (code_in Long) list in
    let falls = killed-join clauses fs fl (λ x a b. split-apart negation negation list x a b) in
    let rises = killed-join clauses rs rl (λ x a b. split-apart (λ l. l) (λ l. l) list x a b) in
    let apart = killed-join clauses (fs ++ fl) (rs ++ rl) (λ x a b.
    let p = split-apart negation (λ l. l) list x in
    let q = split-apart (λ l. l) negation list x in
    grind (arith, stands-append fs fl x, stands-append rs rl x, codes-apart Short list x one, codes-apart Long list x one, p, q)) in
    let all = (fs ++ fl) ++ (rs ++ rl) in
    omega (arith, falls, rises, apart, sum_by-le-sum_by (λ xs. count_by (stands all) xs) length clauses (λ xs. count_by-le-length (stands all) xs))

-- a literal of a clause occurs
pub occurs-some : (clauses : List (List ℕ)) (s l : ℕ) → 0 < length (list_at clauses s) → Contains (list_at clauses s) l → 1 ≤ occurs clauses l
occurs-some clauses s l some there = grind (arith, count-some, get_or-le-sum_by, get_or_past)
