-- The completion is one set. Offered to other crates.
use Rattle.pb_propagate.proofs.Common.{ℕ, ◌∷◌, ◌≡◌, arith, Bool, false, inl, inr, List, not, true, cases_Bool, or_right, NumberedLiteral, Form, on, only}
use Rattle.pb_propagate.proofs.Common.{Derivation, HasConflict, IsCompletion, MayPropagate, MeetsConflict, opened, ◌+◌, ◌<◌, ◌≤◌, ◌||◌, ◌⊎◌, [], cond, refl}
use Rattle.pb_propagate.proofs.Common.{suc, zero, Contains, Entry, total, sum_by, sum_by-cons, sum_by-le-sum_by}
use Rattle.pb_propagate.proofs.lemmas.engine.Choices.{only-true, only-self, total-fits, total-within}
use Rattle.pb_propagate.specs.meaning.Propagation.{begin, put, opposed, broken}
use Rattle.std.specs.Cmp.{both_ways as same_answers}

-- each literal of the first list is on the second
abbrev pub IsPart : List NumberedLiteral → List NumberedLiteral → Type 0
IsPart a b = (v : ℕ) (n : Bool) → on a v n ≡ true → on b v n ≡ true

pub opened-part : (a b : List NumberedLiteral) → IsPart a b → (v : ℕ) (n : Bool) → opened b v n ≡ true → opened a v n ≡ true
opened-part a b w v n h = grind (arith, w v (not n))

-- a literal that may be propagated from a list: on each longer list it is there, may be propagated, or there is a conflict
pub data Lasting (forms : Form → Type 0) (list : List NumberedLiteral) (l : NumberedLiteral) : Type 0 where
  on_it : on list l.variable l.negated ≡ true → Lasting forms list l
  still : MayPropagate forms list l → Lasting forms list l
  conflicting : HasConflict forms list → Lasting forms list l

pub lasting : (forms : Form → Type 0) (a b : List NumberedLiteral) (l : NumberedLiteral) → IsPart a b → MayPropagate forms a l → Lasting forms b l
lasting forms a b l w m =
    elim (cases_Bool (on b l.variable l.negated)) [
      | inl here ↦ on_it here
      | inr absent ↦
          elim (cases_Bool (on b l.variable (not l.negated))) [
            | inl falsified ↦
                let lower = total-fits (opened b) (only l.variable l.negated) (opened a) (opened-part a b w)
                (λ v n e. grind (arith, only-true l.variable l.negated v n e, m.not_falsified)) (λ v n p e. grind (arith, only-true l.variable l.negated v n e)) m.form.terms in
                conflicting (broken m.form m.among (omega (arith, lower, m.forced)))
            | inr free ↦
                still (record {
                  absent = absent;
                  not_falsified = free;
                  form = m.form;
                  among = m.among;
                  stands = m.stands;
                  forced = omega (arith, total-within (opened b) (opened a) (opened-part a b w) m.form.terms, m.forced);
                })
          ]
    ]

pub put-part : (a b : List NumberedLiteral) (l : NumberedLiteral) → IsPart a b → on b l.variable l.negated ≡ true → IsPart (l ∷ a) b
put-part a b l w here v n e = grind (arith, e, only-true l.variable l.negated v n, w v n)

pub derivation-keeps : (forms : Form → Type 0) (given list : List NumberedLiteral) → Derivation forms given list → IsPart given list
derivation-keeps forms given _ begin v n h = h
derivation-keeps forms given _ (put {list} l d m) v n h = or_right (only l.variable l.negated v n) (on list v n) (derivation-keeps forms given list d v n h)

-- a closed list without a conflict has each derivation's literals
pub derivation-part : (forms : Form → Type 0) (given closed : List NumberedLiteral) → IsPart given closed → ((l : NumberedLiteral) → MayPropagate forms closed l → ⊥) → (HasConflict forms closed → ⊥) → (list : List NumberedLiteral) → Derivation forms given list → IsPart list closed
derivation-part forms given closed w c n _ begin = w
derivation-part forms given closed w c n _ (put {list} l d m) =
    let before = derivation-part forms given closed w c n list d in
    elim (lasting forms list closed l before m) [
      | on_it here ↦ put-part list closed l before here
      | still more ↦ absurd (c l more)
      | conflicting bad ↦ absurd (n bad)
    ]

-- a conflict stays on longer lists
pub conflict-part : (forms : Form → Type 0) (a b : List NumberedLiteral) → IsPart a b → HasConflict forms a → HasConflict forms b
conflict-part forms a b w (opposed v here there) = opposed v (w v true here) (w v false there)
conflict-part forms a b w (broken f among low) =
    broken f among (omega (arith, total-within (opened b) (opened a) (opened-part a b w) f.terms, low))

-- a closed list without a conflict refutes each derivation that would have one
pub closed-none : (forms : Form → Type 0) (given closed : List NumberedLiteral) → Derivation forms given closed → ((l : NumberedLiteral) → MayPropagate forms closed l → ⊥) → (HasConflict forms closed → ⊥) → MeetsConflict forms given → ⊥
closed-none forms given closed d c n m =
    n (conflict-part forms m.list closed (derivation-part forms given closed (derivation-keeps forms given closed d) c n m.list m.derived) m.conflict)

completion-part : (forms : Form → Type 0) (given a b : List NumberedLiteral) → (MeetsConflict forms given → ⊥) → IsCompletion forms given a → IsCompletion forms given b → IsPart a b
completion-part forms given a b free p q =
    derivation-part forms given b (derivation-keeps forms given b q.derived) q.closed (λ bad. free (record { list = b; derived = q.derived; conflict = bad })) a p.derived

pub completion-one : (forms : Form → Type 0) (given a b : List NumberedLiteral) → (MeetsConflict forms given → ⊥) → IsCompletion forms given a → IsCompletion forms given b → (v : ℕ) (n : Bool) → on a v n ≡ on b v n
completion-one forms given a b free p q v n =
    same_answers (on a v n) (on b v n) (completion-part forms given a b free p q v n) (completion-part forms given b a free q p v n)

-- Over a list of forms some derivation cannot be extended: each propagated literal leaves fewer terms open.

-- one for each term whose variable has no value
abbrev fresh : List NumberedLiteral → ℕ → ℕ
fresh list v = cond (on list v true || on list v false) 0 1

abbrev unset : List NumberedLiteral → List Entry → ℕ
unset list ts = sum_by (λ t. fresh list t.variable) ts

abbrev unsets : List NumberedLiteral → List Form → ℕ
unsets list fs = sum_by (λ f. unset list f.terms) fs

fresh-less : (list : List NumberedLiteral) (l : NumberedLiteral) (v : ℕ) → fresh (l ∷ list) v ≤ fresh list v
fresh-less list l v = grind arith

unset-le : (list : List NumberedLiteral) (l : NumberedLiteral) (ts : List Entry) → unset (l ∷ list) ts ≤ unset list ts
unset-le list l ts = sum_by-le-sum_by (λ t. fresh (l ∷ list) t.variable) (λ t. fresh list t.variable) ts (λ t. fresh-less list l t.variable)

-- a literal that a form forces
record Forced (list : List NumberedLiteral) (f : Form) (l : NumberedLiteral) : Type 0 where
  absent : on list l.variable l.negated ≡ false
  not_falsified : on list l.variable (not l.negated) ≡ false
  stands : 0 < total (only l.variable l.negated) f.terms
  low : total (opened list) f.terms < f.degree + total (only l.variable l.negated) f.terms

forced_or : (list : List NumberedLiteral) (f : Form) (l : NumberedLiteral) → Forced list f l ⊎ (Forced list f l → ⊥)
forced_or list f l = grind arith

forced-fresh : (list : List NumberedLiteral) (f : Form) (l : NumberedLiteral) → Forced list f l → fresh (l ∷ list) l.variable < fresh list l.variable
forced-fresh list f l r = grind (arith, only-self l.variable l.negated, r.absent, r.not_falsified, l.negated)

-- a forced literal that occurs in the terms, or none
among_terms : (list : List NumberedLiteral) (f : Form) (ts : List Entry) →
    ((l : NumberedLiteral) × Forced list f l × (unset (l ∷ list) ts < unset list ts)) ⊎ ((l : NumberedLiteral) → 0 < total (only l.variable l.negated) ts → Forced list f l → ⊥)
among_terms list f [] = inr (λ l stands r. absurd (omega (arith, stands)))
among_terms list f (t ∷ ts) =
    let l : NumberedLiteral = record { variable = t.variable; negated = t.negated } in
    elim (forced_or list f l) [
      | inl r ↦ inl (l, r, omega (arith, forced-fresh list f l r, unset-le list l ts, sum_by-cons {X = Entry}))
      | inr not_this ↦ elim (among_terms list f ts) [
        | inl found ↦ inl (found.0, found.1, omega (arith, found.2, fresh-less list found.0 t.variable, sum_by-cons {X = Entry}))
        | inr none ↦ inr (λ k stands r. elim (cases_Bool (only k.variable k.negated t.variable t.negated)) [
          | inl e ↦ let same = only-true k.variable k.negated t.variable t.negated e in not_this (rw (same.0, same.1) r)
          | inr e ↦ none k (omega (arith, rw e at stands)) r
        ])
      ]
    ]

-- a literal that one of the forms forces, or none
next_or : (fs : List Form) (list : List NumberedLiteral) →
    ((f : Form) × Contains fs f × (l : NumberedLiteral) × Forced list f l × (unsets (l ∷ list) fs < unsets list fs)) ⊎ ((f : Form) → Contains fs f → (l : NumberedLiteral) → Forced list f l → ⊥)
next_or [] list = inr (λ f c. absurd (omega (arith, c.1)))
next_or (g ∷ gs) list =
    let fewer = λ (l : NumberedLiteral). sum_by-le-sum_by (λ (f : Form). unset (l ∷ list) f.terms) (λ (f : Form). unset list f.terms) gs (λ f. unset-le list l f.terms) in
    elim (among_terms list g g.terms) [
      | inl (l, r, less) ↦ inl (g, (zero, omega arith, refl), l, r, omega (arith, less, fewer l, sum_by-cons {X = Form}))
      | inr none ↦ elim (next_or gs list) [
        | inl (f, c, l, r, less) ↦ inl (f, (suc c.0, omega (arith, c.1), c.2), l, r, omega (arith, less, unset-le list l g.terms, sum_by-cons {X = Form}))
        | inr rest ↦ inr (by_place none rest)
      ]
    ]
  where
    by_place : ((l : NumberedLiteral) → 0 < total (only l.variable l.negated) g.terms → Forced list g l → ⊥) → ((f : Form) → Contains gs f → (l : NumberedLiteral) → Forced list f l → ⊥) → (f : Form) → Contains (g ∷ gs) f → (l : NumberedLiteral) → Forced list f l → ⊥
    by_place none rest f (zero, less, is) l r = let same : g ≡ f = is in none l (rw same r.stands) (rw same r)
    by_place none rest f (suc k, less, is) l r = rest f (k, omega (arith, less), is) l r

ended : (fs : List Form) (given : List NumberedLiteral) (n : ℕ) (list : List NumberedLiteral) → unsets list fs < n → Derivation (Contains fs) given list → (list : List NumberedLiteral) × IsCompletion (Contains fs) given list
ended fs given zero list few d = absurd (omega (arith, few))
ended fs given (suc n) list few d =
    elim (next_or fs list) [
      | inr none ↦ (list, record { derived = d; closed = λ l m. none m.form m.among l (record { absent = m.absent; not_falsified = m.not_falsified; stands = m.stands; low = m.forced }) })
      | inl (f, c, l, r, less) ↦
          let m : MayPropagate (Contains fs) list l = record { absent = r.absent; not_falsified = r.not_falsified; form = f; among = c; stands = r.stands; forced = r.low } in
          ended fs given n (l ∷ list) (omega (arith, less, few)) (put l d m)
    ]

pub completions-exist : (fs : List Form) (given : List NumberedLiteral) → (list : List NumberedLiteral) × IsCompletion (Contains fs) given list
completions-exist fs given = ended fs given (unsets given fs + 1) given (omega arith) begin
