-- A conflict of the root is kept.
use Rattle.pb_propagate.proofs.Common.{ℕ, ◌+◌, ◌<◌, ◌∙◌, ◌≡◌, ◌≤◌, [], ap, arith, Bool, false, get_or, length, List, map, set, subst, sym, take, true, Option}
use Rattle.pb_propagate.proofs.Common.{Some, sum_by, both_ways, get_or_from_slice_get, take_more, slice_get-get_or, slice_get_within, NumberedLiteral, Form}
use Rattle.pb_propagate.proofs.Common.{negation, Assignment, Clauses, Store, all_of, AreJoined, clause_shape, clauses_of, one_term, forms_of, IsSound}
use Rattle.pb_propagate.proofs.Common.{shapes_of, broken, Conflicts, has, HaveReasons, KeepsReasons, open_part, open_sum, opposed, Shape, AreSlots, HasGained}
use Rattle.pb_propagate.proofs.Common.{HasCleared, IsAnswered, IsConflict, IsFree, IsKeptConflict, IsMet, IsNeedless, HasMet, IsAsked, list_of, HasForm}
use Rattle.pb_propagate.proofs.Common.{get_or-le-sum_by, get_or-map, length-map, cases_eq, slice_get, IsSettled, rules, Contains}
use Rattle.pb_propagate.proofs.lemmas.{engine.Reasoned.reasons-derive, engine.Reasoned.reasons-keep, engine.Reasoned.recorded, root.Added.gained-at}
use Rattle.pb_propagate.proofs.lemmas.{root.Retracted.live-slot, root.Retracted.reasons-fresh, store.Gets.get-set_same, store.Gets.get-set_other}
use Rattle.pb_propagate.proofs.lemmas.clauses.Literals.{Agree, false-listed}
use Rattle.pb_propagate.proofs.lemmas.engine.Literals.{open_part-open, has-get, has-push_cases, opposite, says-inside}
use Rattle.pb_propagate.proofs.lemmas.root.{Added.gained-reasons, Added.vacated-all, Added.lost-reasons, Questions.found-after, Questions.root-few}
use Rattle.pb_propagate.specs.declared.engine.{conflict.Conflict.Conflict, root.Root.Root}

-- a conflict falsifies a constraint, since no two literals of the list are opposite
pub conflicts-kept : (forms : List Shape) (a : Assignment) → HaveReasons forms a.reasons.items [] a.list.items → Conflicts forms a.list.items → IsConflict forms a
conflicts-kept forms a reasoned (opposed l here there) = absurd (both_ways _ (opposite a.values.items a.list.items l a.agrees here) there)
conflicts-kept forms a reasoned (broken f (s, inside, is) low) = grind (arith, slice_get-get_or)

pub kept-conflicts : (forms : List Shape) (a : Assignment) → IsConflict forms a → Conflicts forms a.list.items
kept-conflicts forms a h = broken h.form (h.slot, slice_get_within forms h.slot h.form h.stored, get_or_from_slice_get forms h.slot h.form h.form h.stored) h.low

-- a clause with a literal that is not falsified
pub free-met : (values : List (Option Bool)) (list : List NumberedLiteral) (codes : List ℕ) (a : ℕ) (x : Shape) → Agree values list → x ≡ clause_shape codes → IsFree values codes a → x.degree ≤ open_sum list x.terms
free-met values list codes a x agree is ((i, inside, here), free) =
    let at = get_or-map one_term codes i a (one_term a) inside in
    grind (arith, at, get_or-le-sum_by (open_part list) (map one_term codes) i (one_term a), length-map codes one_term, open_part-open list (one_term a), false-listed values list a agree)

-- it answers each question
pub conflict-answered : (forms : List Shape) (visits : ℕ) (a : Assignment) → length a.list.items ≤ visits → IsConflict forms a → IsAnswered forms visits true
conflict-answered forms visits a few h =
    let one = λ (l : NumberedLiteral) (on : has a.list.items l ≡ true). opposite a.values.items a.list.items l a.agrees on in
    let settled : true ≡ false → (f : Shape) → Contains forms f → IsSettled f a.list.items = λ found. absurd cc in
    search (rules, few, reasons-derive h.reasoned, kept-conflicts forms a h, one, settled)

-- a question that met a conflict before it began
pub met-asked : {form : Form} {store : Store} {old clauses : Clauses} {before root : Root} {conflict : Conflict} → before.run.visits ≡ length (list_of before.run) → HasMet store old clauses before root conflict → IsKeptConflict (all_of store old) store.variables conflict → IsAsked form (all_of store old) root.run.visits true
met-asked {form} {store} {old} {clauses} {before} {root} {conflict} visits met kept = grind (arith, conflict.assignment, found-after, root.run.visits, before.run, met.found, conflict-answered, kept.holds, met.met)

pub conflict-few : (store : Store) (clauses : Clauses) (a : Assignment) → IsSound store → AreJoined (shapes_of store.stored.items) (clauses_of clauses) → IsConflict (all_of store clauses) a → length a.list.items ≤ sum_by (λ (f : Shape). length f.terms) (all_of store clauses)
conflict-few store clauses a sound j h = root-few store clauses a sound j h.reasoned

-- the same of another list with these literals
pub conflict-same : (forms : List Shape) (a b : Assignment) → b.list.items ≡ a.list.items → KeepsReasons a.list.items a.reasons.items b.reasons.items → IsConflict forms a → IsConflict forms b
conflict-same forms a b list keeps h = grind (arith, reasons-keep, h.reasoned, h.slot, h.stored, h.low)

pub listed-inside : (a : Assignment) (i : ℕ) (l : NumberedLiteral) → i < length a.list.items → l ≡ get_or a.list.items i l → l.variable < length a.values.items
listed-inside a i l inside is = says-inside a.values.items l (sym (a.agrees l) ∙ ap (has a.list.items) is ∙ has-get a.list.items i l inside)

pub noted-fresh : {forms : List Shape} (a : Assignment) (noted : List NumberedLiteral) (i : ℕ) (l : NumberedLiteral) → HaveReasons forms a.reasons.items [] a.list.items → i < length a.list.items → l ≡ get_or a.list.items i l → noted ≡ take i a.list.items → (has noted l ≡ false) × (has noted (negation l) ≡ false)
noted-fresh a noted i l reasoned inside is first = grind (arith, reasons-fresh i l reasoned inside)

pub kept-next : (base : List NumberedLiteral) (from old new : List ℕ) (i : ℕ) (l : NumberedLiteral) (reason : ℕ) → i < length base → l ≡ get_or base i l → l.variable < length from → l.variable < length old → reason ≡ get_or from l.variable reason → has (take i base) l ≡ false → has (take i base) (negation l) ≡ false → new ≡ set old l.variable reason →
    KeepsReasons (take i base) from old → KeepsReasons (take (i + 1) base) from new
kept-next base from old new i l reason inside is roomf roomo was absent opened e keeps k s on at =
    let earlier = recorded old new (take i base) l reason absent opened e k s in
    grind (arith, take_more base i l inside, has-push_cases (take i base) l k, earlier, keeps k s, slice_get-get_or from l.variable reason roomf, get-set_same old l.variable reason roomo)

-- the same conflict among other constraints
kept-moved : {forms forms' : List Shape} {variables variables' : ℕ} (conflict : Conflict) → variables' ≡ variables →
    ((h : IsConflict forms conflict.assignment) → conflict.met ≡ true →
    HaveReasons forms' conflict.assignment.reasons.items [] conflict.assignment.list.items × (slice_get forms' h.slot ≡ Some h.form)) →
    IsKeptConflict forms variables conflict → IsKeptConflict forms' variables' conflict
kept-moved {forms} {forms'} conflict same move k =
    let holds : conflict.met ≡ true → IsConflict forms' conflict.assignment = λ met. let m = move (k.holds met) met in search (rules, m.0, m.1, (k.holds met).low) in
    record { few = omega (arith, k.few, same); values = λ met. k.values met ∙ sym same; none = k.none; holds = holds }

-- a form came into a slot
pub gained-kept : (before store : Store) (old clauses : Clauses) (slot : ℕ) (conflict : Conflict) → AreSlots (forms_of before.stored.items) (all_of before old) → HasGained before old store clauses slot → IsKeptConflict (all_of before old) before.variables conflict → IsKeptConflict (all_of store clauses) store.variables conflict
gained-kept before store old clauses slot conflict slots g k = kept-moved conflict g.variables (λ h met.
    let here = live-slot (forms_of before.stored.items) (all_of before old) h.slot h.form slots h.stored (omega (arith, h.low)) in
    let reasons = gained-reasons before store old clauses slot conflict.assignment.reasons.items conflict.assignment.list.items g h.reasoned in
    (reasons, gained-at before store old clauses slot h.slot h.form g (λ is. g.empty (subst (HasForm before) is here)) h.stored)) k

-- a form went that is no literal's reason, and is not the falsified one
pub lost-kept : (before store : Store) (old clauses : Clauses) (slot : ℕ) (conflict : Conflict) → HasCleared before old store clauses slot → (conflict.met ≡ true → IsNeedless (all_of before old) slot conflict.assignment) → (conflict.met ≡ true → IsMet (all_of before old) slot conflict.assignment.list.items) → IsKeptConflict (all_of before old) before.variables conflict → IsKeptConflict (all_of store clauses) store.variables conflict
lost-kept before store old clauses slot conflict g spare unbroken k = kept-moved conflict g.variables (λ h met.
    let reasons = lost-reasons before store old clauses slot conflict.assignment g (spare met) in
    (reasons, grind (arith, h.low, unbroken met h.form, cases_eq h.slot slot, vacated-all before store old clauses slot g, get-set_other, h.stored))) k
