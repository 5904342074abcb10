-- What propagation adds to a list is true wherever the forms hold and the given literals are true. Its order does not matter.
use Rattle.pb_replay.proofs.Common.{ℕ, ◌∙◌, ◌∷◌, ◌≡◌, [], arith, Bool, cond, false, inl, inr, List, not, refl, sym, true, both_ways, cases_Bool, cases_lt}
use Rattle.pb_replay.proofs.Common.{false_from_ne_true, not-true, not_from_false, Holds-negation_back, NumberedLiteral, Form, Holds, total, true_at}
use Rattle.pb_replay.proofs.Common.{negation_of, on, only-true, total-fits, total-within, begin, broken, Derivation, HasConflict, HoldAll, IsRup, MayPropagate}
use Rattle.pb_replay.proofs.Common.{MeetsConflict, opened, opposed, put, With, negations, ◌⊎◌, or_left, or_right, only, only-self, completion-one}
use Rattle.pb_replay.proofs.Common.{conflict-part, conflicting, derivation-keeps, IsPart, lasting, on_it, put-part, still, CompletionIsOne, InList, OrderIsFree}

-- a literal and its negation
pub true_at-not : (a : ℕ → Bool) (v : ℕ) (n : Bool) → true_at a v (not n) ≡ not (true_at a v n)
true_at-not a v n = grind arith

not_sign : (n m : Bool) → cond (not n) m (not m) ≡ cond n (not m) (not (not m))
not_sign n m = grind arith

-- the negations have the negation of each literal of the list
pub on-negations : (given : List NumberedLiteral) (x : ℕ) (m : Bool) → on (negations given) x m ≡ on given x (not m)
on-negations [] x m = refl
on-negations (l ∷ ls) x m = rw (not_sign l.negated m, on-negations ls x m) refl

-- each literal of the list is true
abbrev pub AreTrue : (ℕ → Bool) → List NumberedLiteral → Type 0
AreTrue a list = (v : ℕ) (n : Bool) → on list v n ≡ true → true_at a v n ≡ true

at_literal : (a : ℕ → Bool) (l : NumberedLiteral) (v : ℕ) (n : Bool) → true_at a l.variable l.negated ≡ true → v ≡ l.variable → n ≡ l.negated → true_at a v n ≡ true
at_literal a l v n h e f = rw (e, f) h

pub AreTrue-put : (a : ℕ → Bool) (list : List NumberedLiteral) (l : NumberedLiteral) → AreTrue a list → true_at a l.variable l.negated ≡ true → AreTrue a (l ∷ list)
AreTrue-put a list l h t v n e = grind (arith, l.negated, only-true, at_literal)

-- what is true is not falsified
pub true-opened : (a : ℕ → Bool) (list : List NumberedLiteral) → AreTrue a list → (v : ℕ) (n : Bool) → true_at a v n ≡ true → opened list v n ≡ true
true-opened a list h v n t =
    not_from_false (on list v (not n)) (false_from_ne_true (on list v (not n)) (λ e. both_ways _ (not-true (true_at a v n) (sym (true_at-not a v n) ∙ h v (not n) e)) t))

put-true : (forms : Form → Type 0) (a : ℕ → Bool) (list : List NumberedLiteral) (l : NumberedLiteral) → HoldAll a forms → AreTrue a list → MayPropagate forms list l → true_at a l.variable l.negated ≡ true
put-true forms a list l holds h m = grind (arith, l.negated, total-fits, true-opened, only-true, both_ways, m.not_falsified, m.form.terms, m.forced, m.among, cases_Bool (true_at a l.variable l.negated))

pub derivation-true : (forms : Form → Type 0) (a : ℕ → Bool) (given list : List NumberedLiteral) → HoldAll a forms → AreTrue a given → Derivation forms given list → AreTrue a list
derivation-true forms a given _ holds h begin = h
derivation-true forms a given _ holds h (put {list} l d m) =
    let before = derivation-true forms a given list holds h d in AreTrue-put a list l before (put-true forms a list l holds before m)

-- so there is no conflict
pub conflict-false : (forms : Form → Type 0) (a : ℕ → Bool) (list : List NumberedLiteral) → HoldAll a forms → AreTrue a list → HasConflict forms list → ⊥
conflict-false forms a list holds h (opposed v on off) = grind (arith, h)
conflict-false forms a list holds h (broken f among low) = grind (arith, total-within, true-opened, holds)

pub conflict-none : (forms : Form → Type 0) (a : ℕ → Bool) (given : List NumberedLiteral) → HoldAll a forms → AreTrue a given → MeetsConflict forms given → ⊥
conflict-none forms a given holds h m =
    conflict-false forms a m.list holds (derivation-true forms a given m.list holds h m.derived) m.conflict

-- rup is sound
pub IsRup-holds : (forms : Form → Type 0) (a : ℕ → Bool) (r : Form) → HoldAll a forms → IsRup forms r → Holds a r
IsRup-holds forms a r holds (inl none) = omega (arith, none)
IsRup-holds forms a r holds (inr m) =
    elim (cases_lt (total (true_at a) r.terms) r.degree) [
      | inr here ↦ here
      | inl gone ↦
          absurd (conflict-none (With forms (negation_of r)) a [] (with_one (Holds-negation_back a r (omega arith) (λ h. omega (arith, h)))) nothing m)
    ]
  where
    nothing : AreTrue a []
    nothing v n e = absurd (let f : false ≡ true = e in cc)

    with_one : Holds a (negation_of r) → HoldAll a (With forms (negation_of r))
    with_one h f c = grind (arith, holds, h)

-- a list is extended until it has a conflict, or the literals of another one
pub record Reached (forms : Form → Type 0) (from other : List NumberedLiteral) : Type 0 where
  pub list : List NumberedLiteral
  pub derived : Derivation forms from list
  pub ends : HasConflict forms list ⊎ IsPart other list

grown : (a : List NumberedLiteral) (l : NumberedLiteral) → IsPart a (l ∷ a)
grown a l v n h = or_right (only l.variable l.negated v n) (on a v n) h

here : (a : List NumberedLiteral) (l : NumberedLiteral) → on (l ∷ a) l.variable l.negated ≡ true
here a l = or_left (only l.variable l.negated l.variable l.negated) (on a l.variable l.negated) (only-self l.variable l.negated)

part_then : (a b c : List NumberedLiteral) → IsPart a b → IsPart b c → IsPart a c
part_then a b c w u v n h = u v n (w v n h)

reach : (forms : Form → Type 0) (given from list : List NumberedLiteral) → IsPart given from → Derivation forms given list → Reached forms from list
reach forms given from _ w begin = record { list = from; derived = begin; ends = inr w }
reach forms given from _ w (put {list} l d m) =
    let before = reach forms given from list w d in
    elim before.ends [
      | inl bad ↦ record { list = before.list; derived = before.derived; ends = inl bad }
      | inr part ↦
          elim (lasting forms list before.list l part m) [
            | on_it e ↦ record { list = before.list; derived = before.derived; ends = inr (put-part list before.list l part e) }
            | still more ↦ record {
              list = l ∷ before.list;
              derived = put l before.derived more;
              ends = inr (put-part list (l ∷ before.list) l (part_then list before.list (l ∷ before.list) part (grown before.list l)) (here before.list l));
            }
            | conflicting bad ↦ record { list = before.list; derived = before.derived; ends = inl bad }
          ]
    ]

pub conflicts-met : (forms : Form → Type 0) (given list : List NumberedLiteral) → MeetsConflict forms given → Derivation forms given list → MeetsConflict forms list
conflicts-met forms given list meets d =
    let r = reach forms given list meets.list (derivation-keeps forms given list d) meets.derived in
    elim r.ends [
      | inl bad ↦ record { list = r.list; derived = r.derived; conflict = bad }
      | inr part ↦ record { list = r.list; derived = r.derived; conflict = conflict-part forms meets.list r.list part meets.conflict }
    ]

pub order-free : OrderIsFree
order-free fs = conflicts-met (InList fs)

pub completion-set : CompletionIsOne
completion-set fs = completion-one (InList fs)
