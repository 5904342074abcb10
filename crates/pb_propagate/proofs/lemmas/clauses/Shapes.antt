-- Clauses as constraints, and the constraints of all slots when one is added or removed.
use Rattle.pb_propagate.{proofs.lemmas.store.Gets.push-default, specs.engine.engine.Rest.no_slots, specs.engine.engine.Rest.add_slot}
use Rattle.pb_propagate.proofs.{Common.inr, lemmas.clauses.Literals.Agree}
use Rattle.pb_propagate.proofs.Common.{get_or_default, ℕ, ◌+◌, ◌<◌, ◌∙◌, ◌∷◌, ◌≡◌, ◌≤◌, ◌⊎◌, [], ap, arith, Bool, cond, false, get_or, length, List, map, refl}
use Rattle.pb_propagate.proofs.Common.{set, suc, sym, true, zero, ◌==◌, Contains, count_by, Option, slice_get, Some, both_ways, cases_Bool, get_or-le-sum_by}
use Rattle.pb_propagate.proofs.Common.{get_or-map, get_or-set_other, length-map, length-set, nat_tests, sum_by-set, sum_by-cons, slice_get-get_or}
use Rattle.pb_propagate.proofs.Common.{NumberedLiteral, negation, Term, list_at, IsBroken, IsUnit, AreJoined, clause_shape, joined, literal_at, one_term}
use Rattle.pb_propagate.proofs.Common.{slot_shape, false_at, true_at, begin, broken, Conflicts, Derives, has, IsSettled, open_part, open_sum, opposed, put}
use Rattle.pb_propagate.proofs.Common.{Puts, Shape, Contains-get_or, same_Some, ◌*◌, ◌++◌, get_or-set_same, length-append, None, subst, All, cases_eq}
use Rattle.pb_propagate.proofs.Common.{get_or_append_left, slice_get_within, Entry, Form, IsNormal, IsRising, Group, AreDifferent, code, codes_of_terms}
use Rattle.pb_propagate.proofs.Common.{IsClause, IsLight, offset, entry_of, IsStoredAs, AreSlots, IsSlot, cases_lt, ext_get_or, get_or_past, get_or_push, inl}
use Rattle.pb_propagate.proofs.lemmas.clauses.{Literals.true-listed, Literals.false-listed, Literals.half-of, Literals.parity-of, Stores.slot-room}
use Rattle.pb_propagate.proofs.lemmas.engine.Literals.{open_part-falsified, open_part-open, one_itself, settled-of_terms}
use Rattle.std.proofs.lemmas.{Grind.get_or-set_at, List.Elements.All-map, List.Sums.sum_by-le}

-- the open sum of a clause counts its literals that are not falsified
pub few-open : (list : List NumberedLiteral) (codes : List ℕ) (x : ℕ) → ((k d : ℕ) → k < length codes → (has list (negation (literal_at (get_or codes k d))) ≡ true) ⊎ (get_or codes k d ≡ x)) → open_sum list (map one_term codes) ≤ count_by (λ y. x == y) codes
few-open list [] x h = omega arith
few-open list (c ∷ codes) x h =
    let rest = few-open list codes x (λ k d less. h (suc k) d (omega (arith, less))) in
    let s = sum_by-cons (open_part list) (one_term c) (map one_term codes) in
    let n = sum_by-cons (λ y. cond (x == y) 1 0) c codes in
    grind (arith, nat_tests, h 0 0, cases_Bool (has list (negation (literal_at c))), open_part-falsified list (one_term c), open_part-open list (one_term c), rest, s, n)

one-open : (list : List NumberedLiteral) (codes : List ℕ) (a : ℕ) → Contains codes a → has list (negation (literal_at a)) ≡ false → 1 ≤ open_sum list (map one_term codes)
one-open list codes a at free =
    let most = get_or-le-sum_by (open_part list) (map one_term codes) at.0 (one_term a) in
    grind (arith, at.2, length-map, get_or-map one_term codes at.0 a (one_term a) at.1, most, open_part-open list (one_term a) free)

pub two-open : (list : List NumberedLiteral) (codes : List ℕ) (a b : ℕ) → Contains codes a → Contains codes b → (b ≡ a → ⊥) → has list (negation (literal_at a)) ≡ false → has list (negation (literal_at b)) ≡ false → 2 ≤ open_sum list (map one_term codes)
two-open list codes a b at at_b apart free free_b =
    let ts = map one_term codes in
    let gone : Term = record (one_term a) { coefficient = 0 } in
    let here = get_or-map one_term codes at.0 a (one_term a) at.1 in
    let there = get_or-map one_term codes at_b.0 b (one_term b) at_b.1 in
    let other = get_or-set_other ts at.0 at_b.0 gone (one_term b) in
    let most = get_or-le-sum_by (open_part list) (set ts at.0 gone) at_b.0 (one_term b) in
    let change = sum_by-set (open_part list) ts at.0 gone (one_term a) in
    grind (arith, at.2, at_b.2, apart, length-map, length-set, get_or_default, here, there, other, most, change, open_part-open)

-- the constraint of a slot
pub joined-length : (xs : List Shape) (clauses : List (List ℕ)) → length (joined xs clauses) ≡ length xs
joined-length [] clauses = refl
joined-length (x ∷ xs) [] = refl
joined-length (x ∷ xs) (codes ∷ clauses) = let rest = joined-length xs clauses in omega (arith, rest)

pub joined-at : (xs : List Shape) (clauses : List (List ℕ)) (s : ℕ) (d : Shape) → s < length xs → get_or (joined xs clauses) s d ≡ slot_shape (get_or xs s d) (list_at clauses s)
joined-at [] clauses s d h = absurd (omega (arith, h))
joined-at (x ∷ xs) [] s d h = refl
joined-at (x ∷ xs) (codes ∷ clauses) zero d h = refl
joined-at (x ∷ xs) (codes ∷ clauses) (suc s) d h = joined-at xs clauses s d (omega (arith, h))

pub shape-some : (x : Shape) (codes : List ℕ) → 0 < length codes → slot_shape x codes ≡ clause_shape codes
shape-some x [] h = absurd (omega (arith, h))
shape-some x (c ∷ codes) h = refl

pub joined-among : (xs : List Shape) (clauses : List (List ℕ)) (s : ℕ) → AreJoined xs clauses → 0 < length (list_at clauses s) → Contains (joined xs clauses) (clause_shape (list_at clauses s))
joined-among xs clauses s j some =
    (s, omega (arith, slot-room clauses s some, j.short, joined-length xs clauses), grind (arith, slot-room, j.short, joined-at, shape-some))

-- the clause of a slot is its constraint
pub clause-stored : (xs : List Shape) (clauses : List (List ℕ)) (s : ℕ) → AreJoined xs clauses → 0 < length (list_at clauses s) → slice_get (joined xs clauses) s ≡ Some (clause_shape (list_at clauses s))
clause-stored xs clauses s j some =
    grind (arith, slot-room, j.short, joined-at, joined-length, shape-some, slice_get-get_or (joined xs clauses) s (clause_shape (list_at clauses s)))

-- a constraint is a clause, or is in the occurrence lists
pub joined-source : (xs : List Shape) (clauses : List (List ℕ)) (f : Shape) → Contains (joined xs clauses) f → (Contains xs f) ⊎ ((s : ℕ) × (0 < length (list_at clauses s)) × (clause_shape (list_at clauses s) ≡ f))
joined-source xs clauses f h = grind (arith, h.0, h.1, h.2, joined-at xs clauses h.0 f, joined-length xs clauses, Contains-get_or xs h.0 f)

pub kept-joined : (xs : List Shape) (clauses : List (List ℕ)) (f : Shape) → AreJoined xs clauses → Contains xs f → 0 < length f.terms + f.degree → Contains (joined xs clauses) f
kept-joined xs clauses f j h some = (h.0, omega (arith, h.1, joined-length xs clauses), grind (arith, joined-at xs clauses h.0 f, j.apart h.0 f, h.1, h.2, some))

-- what the occurrence lists derive
puts-joined : (xs : List Shape) (clauses : List (List ℕ)) (list : List NumberedLiteral) (l : NumberedLiteral) → AreJoined xs clauses → Puts xs list l → Puts (joined xs clauses) list l
puts-joined xs clauses list l j m = grind (arith, m.absent, m.not_falsified, kept-joined, m.among, m.term.1, m.term, m.forced)

pub derives-joined : (xs : List Shape) (clauses : List (List ℕ)) (a b : List NumberedLiteral) → AreJoined xs clauses → Derives xs a b → Derives (joined xs clauses) a b
derives-joined xs clauses a _ j begin = begin
derives-joined xs clauses a _ j (put {list} l d m) = put l (derives-joined xs clauses a list j d) (puts-joined xs clauses list l j m)

pub conflicts-joined : (xs : List Shape) (clauses : List (List ℕ)) (list : List NumberedLiteral) → AreJoined xs clauses → Conflicts xs list → Conflicts (joined xs clauses) list
conflicts-joined xs clauses list j (opposed l here there) = opposed l here there
conflicts-joined xs clauses list j (broken f among low) = broken f (kept-joined xs clauses f j among (omega (arith, low))) low

-- what a clause derives
pub unit-puts : (xs : List Shape) (clauses : List (List ℕ)) (values : List (Option Bool)) (list : List NumberedLiteral) (s x : ℕ) → AreJoined xs clauses → Agree values list → IsUnit values clauses s x → Puts (clause_shape (list_at clauses s) ∷ []) list (literal_at x)
unit-puts xs clauses values list s x j a u =
    let codes = list_at clauses s in
    let few = few-open list codes x (λ k d h. grind (arith, false-listed, u.others k d h)) in
    record {
      absent = sym (true-listed values list x a) ∙ u.not_true;
      not_falsified = sym (false-listed values list x a) ∙ u.not_false;
      form = clause_shape codes;
      among = one_itself (clause_shape codes);
      coefficient = 1;
      term = (u.stands.0, omega (arith, u.stands.1, length-map codes one_term), grind (arith, get_or-map one_term codes u.stands.0 x, u.stands.1, u.stands.2));
      forced = omega (arith, few, j.different s x);
    }

pub broken-conflicts : (xs : List Shape) (clauses : List (List ℕ)) (values : List (Option Bool)) (list : List NumberedLiteral) → AreJoined xs clauses → Agree values list → IsBroken values clauses → Conflicts (joined xs clauses) list
broken-conflicts xs clauses values list j a b =
    let codes = list_at clauses b.slot in
    let none = All-map (λ t. open_part list t ≤ 0) one_term codes (λ k d h. grind (arith, open_part-falsified, false-listed, b.all k d h)) in
    broken (clause_shape codes) (joined-among xs clauses b.slot j b.some) (omega (arith, sum_by-le (open_part list) 0 (map one_term codes) none))

-- two literals are open wherever one of them might be propagated
wide-settled : (list : List NumberedLiteral) (codes : List ℕ) → 1 ≤ open_sum list (map one_term codes) → ((x : ℕ) → Contains codes x → has list (literal_at x) ≡ false →
    has list (negation (literal_at x)) ≡ false → 2 ≤ open_sum list (map one_term codes)) → IsSettled (clause_shape codes) list
wide-settled list codes low wide = settled-of_terms (clause_shape codes) list low (λ k d less few absent free.
    grind (arith, few, absent, free, less, length-map, get_or-map one_term codes k 0 d, Contains-get_or codes k 0, wide (get_or codes k 0)))

-- some literal of the clause is true
met-settled : (values : List (Option Bool)) (list : List NumberedLiteral) (codes : List ℕ) → Agree values list → ((l : NumberedLiteral) → has list l ≡ true → has list (negation l) ≡ false) →
    (y : ℕ) × Contains codes y × (true_at values y ≡ true) → IsSettled (clause_shape codes) list
met-settled values list codes a one (y, at, h) =
    let on = sym (true-listed values list y a) ∙ h in
    wide-settled list codes (one-open list codes y at (one (literal_at y) on)) (λ x there absent free.
    two-open list codes y x at there (λ is. both_ways _ absent (ap (λ c. has list (literal_at c)) is ∙ on)) (one (literal_at y) on) free)

-- or two of them are not falsified
pub served-settled : (values : List (Option Bool)) (list : List NumberedLiteral) (codes : List ℕ) (p q : ℕ) → Agree values list → ((l : NumberedLiteral) → has list l ≡ true → has list (negation l) ≡ false) →
    Contains codes p → Contains codes q → (q ≡ p → ⊥) → (false_at values p ≡ true → (y : ℕ) × Contains codes y × (true_at values y ≡ true)) →
    (false_at values q ≡ true → (y : ℕ) × Contains codes y × (true_at values y ≡ true)) → IsSettled (clause_shape codes) list
served-settled values list codes p q a one at_p at_q apart met_p met_q =
    let both : 2 ≤ open_sum list (map one_term codes) ⊎ ((y : ℕ) × Contains codes y × (true_at values y ≡ true)) =
    grind (arith, cases_Bool (false_at values p), cases_Bool (false_at values q), met_p, met_q, two-open list codes p q at_p at_q apart, false-listed values list p a, false-listed values list q a) in
    elim both [
      | inl wide ↦ wide-settled list codes (omega (arith, wide)) (λ x there absent free. wide)
      | inr met ↦ met-settled values list codes a one met
    ]

abbrev no_shape : Shape
no_shape = record { terms = []; degree = 0 }

-- a slot
slots-at : (os : List (Option Form)) (xs : List Shape) (s : ℕ) (p : Option Form) (d : Shape) → AreSlots os xs → slice_get os s ≡ Some p → (s < length xs) × IsSlot p (get_or xs s d)
slots-at _ _ s p d no_slots h = absurd (let less = slice_get_within [] s p h in omega (arith, less))
slots-at _ _ zero p d (add_slot o x k a) h = (omega arith, subst (λ q. IsSlot q x) (same_Some o p h) k)
slots-at _ _ (suc s) p d (add_slot {os} {xs} o x k a) h = let rest = slots-at os xs s p d a h in (omega (arith, rest.0), rest.1)

-- an empty slot has neither a clause nor terms
pub record IsVacant (xs : List Shape) (clauses : List (List ℕ)) (s : ℕ) : Type 0 where
  pub inside : s < length xs
  pub clause : list_at clauses s ≡ []
  pub terms : (d : Shape) → (get_or xs s d).terms ≡ []
  pub degree : (d : Shape) → (get_or xs s d).degree ≡ 0

pub slots-vacant : (os : List (Option Form)) (xs : List Shape) (clauses : List (List ℕ)) (s : ℕ) → AreSlots os (joined xs clauses) → slice_get os s ≡ Some None → IsVacant xs clauses s
slots-vacant os xs clauses s a h =
    let at = λ (d : Shape). slots-at os (joined xs clauses) s None d a h in
    let inside : s < length xs = omega (arith, (at no_shape).0, joined-length xs clauses) in
    let clause : list_at clauses s ≡ [] = grind (arith, inside, joined-at xs clauses s no_shape, (at no_shape).1) in
    let bare : (d : Shape) → ((get_or xs s d).terms ≡ []) × ((get_or xs s d).degree ≡ 0) = λ d. grind (arith, inside, clause, joined-at xs clauses s d, (at d).1) in
    record { inside = inside; clause = clause; terms = λ d. (bare d).0; degree = λ d. (bare d).1 }

-- the constraints of all slots, by what is in each
joined-ext : (xs : List Shape) (clauses : List (List ℕ)) (ys : List Shape) → length ys ≡ length xs →
    ((s : ℕ) → s < length xs → slot_shape (get_or xs s no_shape) (list_at clauses s) ≡ get_or ys s no_shape) → joined xs clauses ≡ ys
joined-ext xs clauses ys sizes each = ext_get_or no_shape _ ys (joined-length xs clauses ∙ sym sizes) (λ s less. grind (arith, less, joined-length, joined-at, each s))

-- a constraint is added after the others
pub joined-push : (xs : List Shape) (clauses : List (List ℕ)) (x : Shape) → length clauses ≤ length xs → joined (xs ++ (x ∷ [])) clauses ≡ joined xs clauses ++ (x ∷ [])
joined-push xs clauses x h = joined-ext (xs ++ (x ∷ [])) clauses (joined xs clauses ++ (x ∷ [])) (omega (arith, joined-length, length-append {A = Shape}))
    (λ s less. grind (arith, cases_lt s (length xs), get_or_append_left, get_or_push, get_or_past, joined-at, joined-length, length-append))

pub joined-widen : (xs : List Shape) (clauses : List (List ℕ)) (x : Shape) → length clauses ≡ length xs → joined (xs ++ (x ∷ [])) (clauses ++ ([] ∷ [])) ≡ joined xs clauses ++ (x ∷ [])
joined-widen xs clauses x h = joined-ext (xs ++ (x ∷ [])) (clauses ++ ([] ∷ [])) (joined xs clauses ++ (x ∷ [])) (omega (arith, joined-length, length-append {A = Shape}))
    (λ s less. grind (arith, cases_lt s (length xs), get_or_append_left, get_or_push, get_or_past, push-default, joined-at, joined-length, length-append))

pub AreJoined-push : (xs : List Shape) (clauses : List (List ℕ)) (x : Shape) → AreJoined xs clauses → AreJoined (xs ++ (x ∷ [])) clauses
AreJoined-push xs clauses x j = grind (arith, j.short, length-append, get_or_append_left, slot-room, j.apart, j.different)

pub AreJoined-widen : (xs : List Shape) (clauses : List (List ℕ)) (x : Shape) → AreJoined xs clauses → AreJoined (xs ++ (x ∷ [])) (clauses ++ ([] ∷ []))
AreJoined-widen xs clauses x j =
    let different : (s : ℕ) → AreDifferent (list_at (clauses ++ ([] ∷ [])) s) = λ s. rw push-default (j.different s) in
    grind (arith, j.short, length-append, get_or_append_left, push-default, slot-room, j.apart, different)

-- a constraint is stored in a slot
pub joined-set : (xs : List Shape) (clauses : List (List ℕ)) (s : ℕ) (x : Shape) → list_at clauses s ≡ [] → joined (set xs s x) clauses ≡ set (joined xs clauses) s x
joined-set xs clauses s x h = joined-ext (set xs s x) clauses (set (joined xs clauses) s x) (omega (arith, joined-length, length-set {A = Shape}))
    (λ t less. grind (arith, cases_eq t s, get_or-set_at, get_or-set_other, joined-at, joined-length, length-set))

pub AreJoined-set : (xs : List Shape) (clauses : List (List ℕ)) (s : ℕ) (x : Shape) → list_at clauses s ≡ [] → AreJoined xs clauses → AreJoined (set xs s x) clauses
AreJoined-set xs clauses s x h j = grind (arith, get_or-set_other, length-set, j.apart, j.different, j.short)

-- a clause is stored in a slot
pub joined-clause : (xs : List Shape) (clauses : List (List ℕ)) (s : ℕ) (codes : List ℕ) → s < length clauses → 0 < length codes → joined xs (set clauses s codes) ≡ set (joined xs clauses) s (clause_shape codes)
joined-clause xs clauses s codes less some = joined-ext xs (set clauses s codes) (set (joined xs clauses) s _) (omega (arith, joined-length, length-set {A = Shape}))
    (λ t inside. grind (arith, cases_eq t s, get_or-set_at, get_or-set_other, joined-at, joined-length, shape-some))

-- what is in a slot that gets a clause, or loses it
pub AreJoined-clause : (xs : List Shape) (clauses : List (List ℕ)) (s : ℕ) (codes : List ℕ) → s < length clauses →
    (0 < length codes → (d : Shape) → ((get_or xs s d).terms ≡ []) × ((get_or xs s d).degree ≡ 0)) → AreDifferent codes → AreJoined xs clauses → AreJoined xs (set clauses s codes)
AreJoined-clause xs clauses s codes room bare different j =
    let each : (t : ℕ) → AreDifferent (list_at (set clauses s codes) t) = λ t x.
    grind (arith, cases_eq t s, get_or-set_at, get_or-set_other, different x, j.different t x) in
    grind (arith, j.short, length-set, get_or-set_at, get_or-set_other, bare, j.apart, each)

-- a slot is emptied
pub joined-cleared : (xs : List Shape) (clauses : List (List ℕ)) (s : ℕ) (x : Shape) → joined (set xs s x) (set clauses s []) ≡ set (joined xs clauses) s x
joined-cleared xs clauses s x = joined-ext (set xs s x) (set clauses s []) (set (joined xs clauses) s x) (omega (arith, joined-length, length-set {A = Shape}))
    (λ t less. grind (arith, cases_eq t s, cases_lt s (length clauses), get_or-set_at, get_or-set_other, get_or_past, joined-at, joined-length, length-set))

pub AreJoined-cleared : (xs : List Shape) (clauses : List (List ℕ)) (s : ℕ) (x : Shape) → s < length clauses → AreJoined xs clauses → AreJoined (set xs s x) (set clauses s [])
AreJoined-cleared xs clauses s x room j =
    AreJoined-set xs (set clauses s []) s x (get_or-set_same clauses s [] [] room) (AreJoined-clause xs clauses s [] room (λ some. absurd (omega (arith, some))) (λ x. omega arith) j)

-- the clause of a form
codes-back : (g : Group) (es : List Entry) → All IsLight es → map entry_of (map one_term (map (code g) es)) ≡ es
codes-back g [] all = refl
codes-back g (e ∷ es) all =
    let light = all 0 e (omega arith) in
    rw (codes-back g es (λ k d less. all (suc k) d (omega (arith, less))), half-of g e.variable e.negated, parity-of g e.variable e.negated, ← light.one) refl

pub clause-kept : (f : Form) → IsNormal f → IsClause f → IsStoredAs f (clause_shape (codes_of_terms f.terms))
clause-kept f normal c = grind (arith, f.terms, codes-back)

rising-none : (g : Group) (n : ℕ) (es : List Entry) (x : ℕ) → IsRising n es → x < 4 * n + offset g → count_by (λ y. x == y) (map (code g) es) ≡ 0
rising-none g n [] x r h = refl
rising-none g n (e ∷ es) x r h = grind (arith, nat_tests, rising-none g (e.variable + 1) es x r.2, r.0, sum_by-cons (λ y. cond (x == y) 1 0) (code g e) (map (code g) es))

pub rising-different : (g : Group) (n : ℕ) (es : List Entry) → IsRising n es → AreDifferent (map (code g) es)
rising-different g n [] r x = omega arith
rising-different g n (e ∷ es) r x =
    let count = sum_by-cons (λ y. cond (x == y) 1 0) (code g e) (map (code g) es) in
    grind (arith, nat_tests, rising-none g (e.variable + 1) es x r.2, rising-different g (e.variable + 1) es r.2 x, count)

pub codes-inside : (g : Group) (es : List Entry) (n m : ℕ) → m ≡ 4 * n → All (λ e. e.variable < n) es → All (λ x. x < m) (map (code g) es)
codes-inside g es n m wide all = All-map (λ x. x < m) (code g) es (λ k d less. grind (arith, wide, all k d less))
