-- Literals on a list, tested, counted and as values. Offered to other crates.
use Rattle.pb_propagate.proofs.Common.{ℕ, ◌+◌, ◌<◌, ◌∷◌, ◌≡◌, ◌≤◌, [], arith, get_or, get_or-set_other, length, List, refl, set, suc, true, sum, sum_by}
use Rattle.pb_propagate.proofs.Common.{or_left, or_right, get_or_past, set_past, sum_by-cons, sum_by-set, sum_by_push, NumberedLiteral, negation, AreSingle}
use Rattle.pb_propagate.proofs.Common.{more, none, place, spent, begin, Derives, put, Shape, Weighted, ◌++◌, ◌||◌, ◌∙◌, ◌⊎◌, ap, Bool, eq-eqb, false, not, zero}
use Rattle.pb_propagate.proofs.Common.{Contains, not-not, or-false, eqb-true, list_any-append, sum_by-le-sum_by, beq, Term, IsWithin, open_sum, IsSettled, Puts}
use Rattle.pb_propagate.proofs.Common.{get_or_append_left, get_or_push, length-append, drop, get_or-set_same, None, sym, Option, Some, ne_eqb, drop_all}
use Rattle.pb_propagate.proofs.Common.{drop_more, holds, vacancy}
use Rattle.pb_propagate.specs.engine.engine.Lists.{has, same, open_part, says}
use Rattle.std.{proofs.lemmas.Grind.get_or-set_at, proofs.lemmas.List.Folds.list_any_at, proofs.lemmas.List.Sums.sum_by-remove, specs.List.remove}

pub beq-not : (a b : Bool) → beq (not a) b ≡ not (beq a b)
beq-not a b = grind arith

abbrev pub literal : ℕ → Bool → NumberedLiteral
literal v n = record { variable = v; negated = n }

pub literal_ext : (a b : NumberedLiteral) → a.variable ≡ b.variable → a.negated ≡ b.negated → a ≡ b
literal_ext a b v n = grind (arith, a.negated, b.negated)

pub same-true : (a b : NumberedLiteral) → same a b ≡ true → a ≡ b
unfolding same
same-true a b h = grind (arith, eqb-true, a.negated, b.negated, literal_ext)

pub same-refl : (a : NumberedLiteral) → same a a ≡ true
unfolding same
same-refl a = grind (arith, eq-eqb a.variable a.variable refl, a.negated)

pub negation-negation : (l : NumberedLiteral) → negation (negation l) ≡ l
negation-negation l = literal_ext _ _ refl (not-not l.negated)

-- one more literal
pub has-push : (xs : List NumberedLiteral) (l k : NumberedLiteral) → has (xs ++ (l ∷ [])) k ≡ (has xs k || same l k)
unfolding has
has-push xs l k = rw (list_any-append (λ x. same x k) xs (l ∷ [])) (ap (λ b. has xs k || b) (or-false (same l k)))

pub has-none : (k : NumberedLiteral) → has [] k ≡ false
unfolding has
has-none k = refl

pub has-push_old : (xs : List NumberedLiteral) (l k : NumberedLiteral) → has xs k ≡ true → has (xs ++ (l ∷ [])) k ≡ true
has-push_old xs l k h = has-push xs l k ∙ or_left (has xs k) (same l k) h

pub has-push_new : (xs : List NumberedLiteral) (l : NumberedLiteral) → has (xs ++ (l ∷ [])) l ≡ true
has-push_new xs l = has-push xs l l ∙ or_right (has xs l) (same l l) (same-refl l)

pub has-push_cases : (xs : List NumberedLiteral) (l k : NumberedLiteral) → has (xs ++ (l ∷ [])) k ≡ true → (has xs k ≡ true) ⊎ (l ≡ k)
has-push_cases xs l k h = grind (arith, has-push xs l k, same-true l k)

pub push-within : (xs ys : List NumberedLiteral) (l : NumberedLiteral) → IsWithin xs ys → has ys l ≡ true → IsWithin (xs ++ (l ∷ [])) ys
push-within xs ys l w here k h = grind (arith, has-push_cases xs l k h, w k)

-- a longer list opens no more
pub open_part-falsified : (list : List NumberedLiteral) (t : Term) → has list (negation t.literal) ≡ true → open_part list t ≡ 0
unfolding open_part
open_part-falsified list t h = rw h

pub open_part-open : (list : List NumberedLiteral) (t : Term) → has list (negation t.literal) ≡ false → open_part list t ≡ t.coefficient
unfolding open_part
open_part-open list t h = rw h

pub open_sum-within : (a b : List NumberedLiteral) → IsWithin a b → (terms : List Term) → open_sum b terms ≤ open_sum a terms
open_sum-within a b w terms = sum_by-le-sum_by (open_part b) (open_part a) terms (λ t.
    grind (arith, open_part-falsified b t, open_part-open b t, open_part-falsified a t, open_part-open a t, w (negation t.literal)))

-- a literal that the longer list falsifies takes its coefficient from the open sum
pub open_sum-lower : (a b : List NumberedLiteral) → IsWithin a b → (terms : List Term) (t : Term) → Contains terms t → has a (negation t.literal) ≡ false → has b (negation t.literal) ≡ true → open_sum b terms + t.coefficient ≤ open_sum a terms
open_sum-lower a b w terms t (k, inside, is) opened gone =
    omega (
      arith,
      open_sum-within a b w (remove terms k),
      sum_by-remove (open_part a) terms k t inside,
      sum_by-remove (open_part b) terms k t inside,
      ap (open_part a) is,
      ap (open_part b) is,
      open_part-falsified b t gone,
      open_part-open a t opened,
    )

-- which literals are on a list
pub has-get : (list : List NumberedLiteral) (i : ℕ) (d : NumberedLiteral) → i < length list → has list (get_or list i d) ≡ true
unfolding has
has-get list i d inside = list_any_at (λ k. same k (get_or list i d)) list i d inside (same-refl (get_or list i d))

-- derivations, and what forces a literal
pub derivation-keeps : (forms : List Shape) (a b : List NumberedLiteral) → Derives forms a b → IsWithin a b
derivation-keeps forms a _ begin = λ l h. h
derivation-keeps forms a _ (put {list} l d m) = λ k h. has-push_old list l k (derivation-keeps forms a list d k h)

pub derivation-then : (forms : List Shape) (a b c : List NumberedLiteral) → Derives forms a b → Derives forms b c → Derives forms a c
derivation-then forms a b _ d begin = d
derivation-then forms a b _ d (put {list} l e m) = put l (derivation-then forms a b list d e) m

pub one_itself : (f : Shape) → Contains (f ∷ []) f
one_itself f = (0, omega arith, refl)

-- the same from other constraints, among them the one that forces it
pub puts-other : (a b : List Shape) (list : List NumberedLiteral) (l : NumberedLiteral) (m : Puts a list l) → Contains b m.form → Puts b list l
puts-other a b list l m among = grind (arith, m.absent, m.not_falsified, m.term, m.forced)

-- some element is the only one of a list
pub only-itself : (x y : Shape) → Contains (x ∷ []) y → x ≡ y
only-itself x y (zero, inside, is) = is
only-itself x y (suc k, inside, is) = absurd (omega (arith, inside))

-- a form is settled if each term that would be propagated is on the list or falsified
pub settled-of_terms : (f : Shape) (list : List NumberedLiteral) → f.degree ≤ open_sum list f.terms → ((k : ℕ) (d : Term) → k < length f.terms → open_sum list f.terms < f.degree + (get_or f.terms k d).coefficient → has list (get_or f.terms k d).literal ≡ false → has list (negation (get_or f.terms k d).literal) ≡ false → ⊥) → IsSettled f list
settled-of_terms f list met each = grind (arith, only-itself, f.terms)

-- the default after a list changes nothing that is read
pub get_or-push_default : {X : Type 0} (xs : List X) (d : X) (k : ℕ) → get_or (xs ++ (d ∷ [])) k d ≡ get_or xs k d
get_or-push_default xs d k = grind (arith, get_or_append_left, get_or_push, get_or_past, length-append)

-- sums over lists of literals, and lists with each literal once
pub sum_by-agree : (f g : NumberedLiteral → ℕ) (list : List NumberedLiteral) → ((k : NumberedLiteral) → has list k ≡ true → f k ≡ g k) → sum_by f list ≡ sum_by g list
unfolding has
sum_by-agree f g [] e = refl
sum_by-agree f g (x ∷ xs) e =
    let rest = sum_by-agree f g xs (λ k h. e k (or_right (same x k) (has xs k) h)) in
    omega (arith, sum_by-cons f x xs, sum_by-cons g x xs, rest, e x (or_left (same x x) (has xs x) (same-refl x)))

pub place-injective : (k l : NumberedLiteral) → place k ≡ place l → k ≡ l
place-injective k l e = grind (arith, k.negated, l.negated, literal_ext)

-- a list of entries is emptied
pub lists-clear : (lists : List (List Weighted)) (p : ℕ) → sum_by length (set lists p []) + length (get_or lists p []) ≡ sum_by length lists
lists-clear lists p = grind (arith, sum_by-set, get_or_past, set_past)

-- the lists of different literals are counted once
pub spent-le : (lists : List (List Weighted)) (list : List NumberedLiteral) → AreSingle list → spent lists list ≤ sum_by length lists
spent-le lists _ none = omega arith
spent-le lists _ (more {list} l d absent) =
    let p = place (negation l) in
    let w = λ (ls : List (List Weighted)) (k : NumberedLiteral). length (get_or ls (place (negation k)) []) in
    let agree = sum_by-agree (w lists) (w (set lists p [])) list (λ k h. grind (arith, place-injective, negation-negation, get_or-set_other)) in
    omega (arith, spent-le (set lists p []) list d, agree, sum_by_push (w lists) list l, lists-clear lists p)

pub derivation-single : (forms : List Shape) (a b : List NumberedLiteral) → AreSingle a → Derives forms a b → AreSingle b
derivation-single forms a _ s begin = s
derivation-single forms a _ s (put {list} l d m) = more l (derivation-single forms a list s d) m.absent

-- the terms of the forms
pub sum-bounded : (forms : List Shape) (cands : List ℕ) → length cands ≡ length forms → ((s : ℕ) (d : Shape) → s < length forms → get_or cands s 0 ≤ length (get_or forms s d).terms) → sum cands ≤ sum_by (λ f. length f.terms) forms
sum-bounded forms [] e h = omega arith
sum-bounded [] (c ∷ cs) e h = absurd (omega (arith, e))
sum-bounded (f ∷ fs) (c ∷ cs) e h =
    let rest = sum-bounded fs cs (omega (arith, e)) (λ s d less. h (suc s) d (omega (arith, less))) in
    omega (arith, rest, h 0 f (omega arith), sum_by-cons (λ x. x) c cs, sum_by-cons (λ (x : Shape). length x.terms) f fs)

-- the values are those that the list gives
abbrev pub Agree : List (Option Bool) → List NumberedLiteral → Type 0
Agree values list = (l : NumberedLiteral) → has list l ≡ says values l

pub says-some : (values : List (Option Bool)) (l : NumberedLiteral) (m : Bool) → get_or values l.variable None ≡ Some m → says values l ≡ beq (not m) l.negated
unfolding says
says-some values l m h = rw h

pub says-none : (values : List (Option Bool)) (l : NumberedLiteral) → get_or values l.variable None ≡ None → says values l ≡ false
unfolding says
says-none values l h = rw h

-- a variable with neither literal on the list has no value
pub vacant : (values : List (Option Bool)) (list : List NumberedLiteral) (l : NumberedLiteral) → Agree values list → has list l ≡ false → has list (negation l) ≡ false → get_or values l.variable None ≡ None
unfolding says
vacant values list l a absent open' = grind (arith, a l, a (negation l))

-- a literal and its negation are not both on the list
pub opposite : (values : List (Option Bool)) (list : List NumberedLiteral) (l : NumberedLiteral) → Agree values list → has list l ≡ true → has list (negation l) ≡ false
unfolding says
opposite values list l a here = grind (arith, a l, a (negation l))

-- two literals of one variable on the list are the same
pub one-literal : (values : List (Option Bool)) (list : List NumberedLiteral) (a b : NumberedLiteral) → Agree values list → has list a ≡ true → has list b ≡ true → a.variable ≡ b.variable → a ≡ b
unfolding says
one-literal values list a b agree on_a on_b e = grind (arith, agree a, agree b, a.negated, b.negated, literal_ext)

pub has-elsewhere : (xs : List NumberedLiteral) (l k : NumberedLiteral) → (k.variable ≡ l.variable → ⊥) → has (xs ++ (l ∷ [])) k ≡ has xs k
unfolding same
has-elsewhere xs l k ne = grind (arith, has-push xs l k, ne_eqb)

pub has-neither : (list : List NumberedLiteral) (l k : NumberedLiteral) → has list l ≡ false → has list (negation l) ≡ false → k.variable ≡ l.variable → has list k ≡ false
has-neither list l k absent open' e = grind (arith, k.negated, l.negated, literal_ext)

pub says-apart : (xs : List (Option Bool)) (v : ℕ) (o : Option Bool) (q : NumberedLiteral) → (q.variable ≡ v → ⊥) → says (set xs v o) q ≡ says xs q
unfolding says
says-apart xs v o q apart = ap (λ x. holds x q.negated) (get_or-set_other xs v q.variable o None apart)

pub Agree-push : (values : List (Option Bool)) (list : List NumberedLiteral) (l : NumberedLiteral) → Agree values list → l.variable < length values → has list l ≡ false → has list (negation l) ≡ false → Agree (set values l.variable (Some (not l.negated))) (list ++ (l ∷ []))
unfolding same
Agree-push values list l a inside absent open' k = grind (arith, l.negated, has-push, has-neither, eq-eqb, not-not, says-some, get_or-set_at, has-elsewhere, says-apart)

pub vacancy-push : (values : List (Option Bool)) (list : List NumberedLiteral) (l : NumberedLiteral) → Agree values list → l.variable < length values → has list l ≡ false → has list (negation l) ≡ false → sum_by vacancy (set values l.variable (Some (not l.negated))) + 1 ≡ sum_by vacancy values
vacancy-push values list l a inside absent open' =
    omega (arith, rw (vacant values list l a absent open') at (sum_by-set vacancy values l.variable (Some (not l.negated)) None inside))

-- the values of variables
pub says-inside : (values : List (Option Bool)) (l : NumberedLiteral) → says values l ≡ true → l.variable < length values
says-inside values l h = grind (arith, says-none values l, get_or_past values l.variable None)

-- some values were removed
abbrev pub Forgotten : List (Option Bool) → List NumberedLiteral → Type 0
Forgotten values rest = (l : NumberedLiteral) → says values l ≡ true → has rest l ≡ true

pub forget-next : (values : List (Option Bool)) (list : List NumberedLiteral) (i : ℕ) (d : NumberedLiteral) → i < length list → Forgotten values (drop i list) → Forgotten (set values (get_or list i d).variable None) (drop (i + 1) list)
unfolding has same
forget-next values list i d inside f l h =
    grind (arith, rw (drop_more list i d inside) at (f l), says-none, says-apart, get_or-set_same, set_past, get_or_past, ne_eqb)

pub forget-none : (values : List (Option Bool)) (list : List NumberedLiteral) (i : ℕ) → length list ≤ i → Forgotten values (drop i list) → (k : ℕ) → get_or values k None ≡ None
unfolding says
forget-none values list i all f k = grind (arith, f (literal k true), f (literal k false), drop_all i list all, has-none)

pub vacancy-none : (values : List (Option Bool)) → ((k : ℕ) → get_or values k None ≡ None) → sum_by vacancy values ≡ length values
vacancy-none [] n = refl
vacancy-none (o ∷ os) n = omega (arith, sum_by-cons vacancy o os, vacancy-none os (λ k. n (suc k)), ap vacancy (n 0))

-- no literal, and one more variable
pub Agree-cleared : (values : List (Option Bool)) (list : List NumberedLiteral) → list ≡ [] → ((k : ℕ) → get_or values k None ≡ None) → Agree values list
Agree-cleared values list e n = rw e (λ l. has-none l ∙ sym (says-none values l (n l.variable)))

pub Agree-widen : (values wider : List (Option Bool)) (list : List NumberedLiteral) → wider ≡ values ++ (None ∷ []) → Agree values list → Agree wider list
unfolding says
Agree-widen values wider list e a l = rw e (a l ∙ ap (λ o. holds o l.negated) (sym (get_or-push_default values None l.variable)))
