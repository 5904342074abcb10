-- The engine's lists and forms are those of the definitions.
use Rattle.pb_propagate.proofs.Common.{IsRefuted, IsCompletion, MeetsConflict, ℕ, ◌++◌, ◌+◌, ◌<◌, ◌∙◌, ◌∷◌, ◌≡◌, ◌⊎◌, [], ap, arith, Bool, false, inl, inr}
use Rattle.pb_propagate.proofs.lemmas.engine.Choices.{total-has, total-sum, rising-positive, only-true, only-self}
use Rattle.pb_propagate.proofs.Common.{length, length-append, List, map, refl, suc, sym, true, Contains, sum_by, both_ways, cases_Bool, get_or-map, length-map}
use Rattle.pb_propagate.proofs.Common.{Contains-permutation, IsPermutation-sym, sum_by-IsPermutation, sum_by-cons, Entry, NumberedLiteral, counted, Form, Gives}
use Rattle.pb_propagate.proofs.Common.{IsRising, total, negation, on, only, Term, entry_of, IsStoredAs, Conflicts, Derives, IsSettled, open_sum, Puts, Shape}
use Rattle.pb_propagate.proofs.Common.{Derivation, HasConflict, MayPropagate, opened, get_or, cases_eq, eq-eqb, ne_eqb, take, Option, take_more, Adopted}
use Rattle.{pb_propagate.proofs.Common.IsWithin, pb_propagate.proofs.Common.HasClash, std.specs.Cmp.both_ways as same_answers}
use Rattle.pb_propagate.{proofs.Common.IsFrom, proofs.Common.IsEnded, specs.engine.engine.Rest.opposite as opposites, specs.engine.engine.Rest.derived as from}
use Rattle.pb_propagate.proofs.lemmas.engine.{Completing.closed-none, Literals.literal_ext, Literals.has-none as on-none, Literals.Agree, Literals.opposite}
use Rattle.pb_propagate.proofs.lemmas.engine.Literals.{literal, one_itself, has-push, has-get, has-push_old, has-push_new, has-push_cases, push-within}
use Rattle.pb_propagate.specs.engine.engine.Lists.{open_part, begin as start_there, put as more, opposed as both, broken as low, has, same, says}
use Rattle.pb_propagate.specs.meaning.Propagation.{begin, put, opposed, broken}

-- the first list has the literals of the second
abbrev pub Matches : List NumberedLiteral → List NumberedLiteral → Type 0
Matches new old = (l : NumberedLiteral) → on new l.variable l.negated ≡ has old l

pub only-same : (l k : NumberedLiteral) → only l.variable l.negated k.variable k.negated ≡ same l k
unfolding same
only-same l k = grind (arith, l.negated, k.negated, cases_eq l.variable k.variable, eq-eqb, ne_eqb)

pub matches-put : (new old : List NumberedLiteral) (l : NumberedLiteral) → Matches new old → Matches (l ∷ new) (old ++ (l ∷ []))
matches-put new old l m k = grind (arith, only-same l k, m k, has-push old l k)

-- sums
open-entries : (new old : List NumberedLiteral) → Matches new old → (ts : List Term) → sum_by (counted (opened new)) (map entry_of ts) ≡ open_sum old ts
unfolding open_part
open-entries new old m [] = refl
open-entries new old m (t ∷ ts) =
    let here : counted (opened new) (entry_of t) ≡ open_part old t = rw (m (negation t.literal)) (grind arith) in
    omega (arith, open-entries new old m ts, here, sum_by-cons (counted (opened new)) (entry_of t) (map entry_of ts), sum_by-cons (open_part old) t ts)

pub total-open : (f : Form) (x : Shape) (new old : List NumberedLiteral) → IsStoredAs f x → Matches new old → total (opened new) f.terms ≡ open_sum old x.terms
total-open f x new old k m =
    omega (arith, total-sum (opened new) f.terms, sum_by-IsPermutation (counted (opened new)) (map entry_of x.terms) f.terms k.terms, open-entries new old m x.terms)

-- beyond its variable a literal has no coefficient
rising-past : (n v : ℕ) (b : Bool) (es : List Entry) → v < n → IsRising n es → total (only v b) es ≡ 0
rising-past n v b [] h r = refl
rising-past n v b (x ∷ xs) h r = grind (arith, only-true v b x.variable x.negated, rising-past (x.variable + 1) v b xs (omega (arith, h, r.0)) r.2)

rising-only : (n v : ℕ) (b : Bool) (es : List Entry) → IsRising n es → 0 < total (only v b) es → Contains es (record { variable = v; negated = b; coefficient = total (only v b) es })
rising-only n v b [] r h = absurd (omega (arith, h))
rising-only n v b (x ∷ xs) r h =
    elim (cases_Bool (only v b x.variable x.negated)) [
      | inl here ↦
          let is = only-true v b x.variable x.negated here in
          let past = rising-past (x.variable + 1) v b xs (omega (arith, is.0)) r.2 in
          let whole : x.coefficient ≡ total (only v b) (x ∷ xs) = rw here (omega (arith, past)) in
          let ext : (c : ℕ) → x.coefficient ≡ c → x ≡ record { variable = v; negated = b; coefficient = c } = λ c e. rw (← is.0, ← is.1, ← e) refl in
          (0, omega arith, ext (total (only v b) (x ∷ xs)) whole)
      | inr other ↦
          let same_total : total (only v b) (x ∷ xs) ≡ total (only v b) xs = rw other (omega arith) in
          let rest = rising-only (x.variable + 1) v b xs r.2 (omega (arith, h, same_total)) in
          rw same_total (suc rest.0, omega (arith, rest.1), rest.2)
    ]

-- the stored forms are the set's, each perhaps in another order, and some empty ones
pub record AreKept (F : Form → Type 0) (shapes : List Shape) : Type 0 where
  pub forth : (x : Shape) → Contains shapes x → ((f : Form) × F f × IsStoredAs f x) ⊎ ((x.terms ≡ []) × (x.degree ≡ 0))
  pub back : (f : Form) → F f → (x : Shape) × Contains shapes x × IsStoredAs f x

pub may-put : (F : Form → Type 0) (shapes : List Shape) (new old : List NumberedLiteral) (l : NumberedLiteral) → AreKept F shapes → Matches new old → Puts shapes old l → MayPropagate F new l
may-put F shapes new old l a m p =
    elim (a.forth p.form p.among) [
      | inr empty ↦ absurd (omega (arith, p.term.1, ap length empty.0))
      | inl (f, among, k) ↦
          let t : Term = record { literal = l; coefficient = p.coefficient } in
          let mapped : Contains (map entry_of p.form.terms) (entry_of t) = (p.term.0, omega (arith, p.term.1, length-map p.form.terms entry_of), get_or-map entry_of p.form.terms p.term.0 t (entry_of t) p.term.1 ∙ ap entry_of p.term.2) in
          let mine = Contains-permutation (map entry_of p.form.terms) f.terms (entry_of t) k.terms mapped in
          let some = total-has (only l.variable l.negated) f.terms (entry_of t) mine (only-self l.variable l.negated) in
          record {
            absent = m l ∙ p.absent;
            not_falsified = m (negation l) ∙ p.not_falsified;
            form = f;
            among = among;
            stands = omega (arith, some, rising-positive 0 f.terms (entry_of t) k.normal.ordered mine);
            forced = omega (arith, total-open f p.form new old k m, p.forced, k.degree, some);
          }
    ]

pub record Derived (F : Form → Type 0) (given beginning old : List NumberedLiteral) : Type 0 where
  pub list : List NumberedLiteral
  pub count : length list + length beginning ≡ length old + length given
  pub derived : Derivation F given list
  pub matches : Matches list old

pub derives : (F : Form → Type 0) (shapes : List Shape) (given first : List NumberedLiteral) (old : List NumberedLiteral) → AreKept F shapes → Matches given first → Derives shapes first old → Derived F given first old
derives F shapes given first _ a m start_there = record { list = given; count = omega arith; derived = begin; matches = m }
derives F shapes given first _ a m (more {list = earlier} l d p) =
    let before = derives F shapes given first earlier a m d in
    record {
      list = l ∷ before.list;
      count = omega (arith, before.count, length-append earlier (l ∷ []));
      derived = put l before.derived (may-put F shapes before.list earlier l a before.matches p);
      matches = matches-put before.list earlier l before.matches;
    }

pub conflicts : (F : Form → Type 0) (shapes : List Shape) (new old : List NumberedLiteral) → AreKept F shapes → Matches new old → Conflicts shapes old → HasConflict F new
conflicts F shapes new old a m (both l here there) = elim (cases_Bool l.negated) [
  | inl e ↦ opposed l.variable (rw e at (m l ∙ here)) (rw e at (m (negation l) ∙ there))
  | inr e ↦ opposed l.variable (rw e at (m (negation l) ∙ there)) (rw e at (m l ∙ here))
]
conflicts F shapes new old a m (low x among less) =
    elim (a.forth x among) [
      | inr empty ↦ absurd (omega (arith, empty.1, less))
      | inl found ↦ broken found.0 found.1 (omega (arith, total-open found.0 x new old found.2 m, less, found.2.degree))
    ]

-- if each stored form is settled, the list is closed and has no conflict
pub is-closed : (F : Form → Type 0) (shapes : List Shape) (new old : List NumberedLiteral) → AreKept F shapes → Matches new old → ((x : Shape) → Contains shapes x → IsSettled x old) → (l : NumberedLiteral) → MayPropagate F new l → ⊥
is-closed F shapes new old a m settled l p =
    let found = a.back p.form p.among in
    let x = found.0 in let k = found.2 in
    let c = total (only l.variable l.negated) p.form.terms in
    let entry = rising-only 0 l.variable l.negated p.form.terms k.normal.ordered p.stands in
    let back = Contains-permutation p.form.terms (map entry_of x.terms) (record { variable = l.variable; negated = l.negated; coefficient = c }) (IsPermutation-sym (map entry_of x.terms) p.form.terms k.terms) entry in
    (settled x found.1).idle l (record {
      absent = sym (m l) ∙ p.absent;
      not_falsified = sym (m (negation l)) ∙ p.not_falsified;
      form = x;
      among = one_itself x;
      coefficient = c;
      term = term-back x.terms c back;
      forced = omega (arith, total-open p.form x new old k m, p.forced, k.degree);
    })
  where
    term-back : (ts : List Term) (c : ℕ) → Contains (map entry_of ts) (record { variable = l.variable; negated = l.negated; coefficient = c }) → Contains ts (record { literal = l; coefficient = c })
    term-back ts c (i, inside, is) =
        let d : Term = record { literal = l; coefficient = c } in
        let less : i < length ts = omega (arith, inside, length-map ts entry_of) in
        let same : entry_of (get_or ts i d) ≡ entry_of d = sym (get_or-map entry_of ts i d (entry_of d) less) ∙ is in
        (i, less, grind (arith, same, literal_ext))

pub has-none : (F : Form → Type 0) (shapes : List Shape) (new old : List NumberedLiteral) → AreKept F shapes → Matches new old → ((l : NumberedLiteral) → has old l ≡ true → has old (negation l) ≡ false) → ((x : Shape) → Contains shapes x → IsSettled x old) → HasConflict F new → ⊥
has-none F shapes new old a m single settled (opposed v here there) =
    both_ways _ (single (literal v true) (sym (m (literal v true)) ∙ here)) (sym (m (literal v false)) ∙ there)
has-none F shapes new old a m single settled (broken f among less) =
    let found = a.back f among in
    absurd (omega (arith, (settled found.0 found.1).met, total-open f found.0 new old found.2 m, less, found.2.degree))

-- the given literals, and what a completion from them is
push-from : (start given list : List NumberedLiteral) (i : ℕ) (d : NumberedLiteral) → i < length given → IsFrom start given list → IsFrom start given (list ++ (get_or given i d ∷ []))
push-from start given list i d inside source k h = grind (arith, has-push_cases list (get_or given i d) k h, source k, has-get given i d inside)

-- a literal was tried
pub record Assumed (start given list : List NumberedLiteral) (i : ℕ) : Type 0 where
  pub within : IsFrom start given list
  pub covers : IsWithin (take i given) list

pub assumed-next : (start given old new : List NumberedLiteral) (i : ℕ) (d : NumberedLiteral) → i < length given → has old (negation (get_or given i d)) ≡ false → Adopted (get_or given i d) old new → Assumed start given old i → Assumed start given new (i + 1)
assumed-next start given old new i d inside free tried a =
    let l = get_or given i d in
    let more : IsWithin old new = λ k h. grind (arith, tried, has-push_old old l k) in
    let here : has new l ≡ true = grind (arith, tried, free, has-push_new old l) in
    record {
      within = λ k h. grind (arith, tried, has-push_cases old l k, a.within k, has-get given i d inside);
      covers = λ k h. push-within (take i given) new l (λ m g. more m (a.covers m g)) here k (rw (take_more given i d inside) at h);
    }

pub none-assumed : (list : List NumberedLiteral) → IsWithin [] list
none-assumed list l h = absurd (both_ways _ (on-none l) h)

-- a given literal that is falsified
pub opposed-clash : (shapes : List Shape) (start given list : List NumberedLiteral) (i : ℕ) (d : NumberedLiteral) → i < length given → has list (negation (get_or given i d)) ≡ true → IsFrom start given list → HasClash shapes start given
opposed-clash shapes start given list i d inside there source =
    let l = get_or given i d in
    record {
      list = list ++ (l ∷ []);
      reached = record { first = list ++ (l ∷ []); within = push-from start given list i d inside source; derived = start_there };
      conflict = both l (has-push_new list l) (has-push_old list l (negation l) there);
    }

-- the list as given
pub on-has : (list : List NumberedLiteral) → Matches list list
unfolding has
on-has [] k = refl
on-has (l ∷ ls) k = grind (arith, only-same l k, on-has ls k)

given-matches : (given first : List NumberedLiteral) → IsWithin first given → IsWithin given first → Matches given first
given-matches given first w c l = on-has given l ∙ same_answers (has given l) (has first l) (c l) (w l)

pub refuted-meets : (F : Form → Type 0) (shapes : List Shape) (given list : List NumberedLiteral) → AreKept F shapes → IsRefuted shapes given list → MeetsConflict F given
refuted-meets F shapes given list a (opposites l here there) =
    record { list = given; derived = begin; conflict = conflicts F shapes given given a (on-has given) (both l here there) }
refuted-meets F shapes given list a (from d bad) =
    let e = derives F shapes given d.first list a (given-matches given d.first d.within d.covers) d.derived in
    record { list = e.list; derived = e.derived; conflict = conflicts F shapes e.list list a e.matches bad }

-- a derivation that cannot be extended is a completion, without a conflict
pub ended-completion : (F : Form → Type 0) (shapes : List Shape) (given list : List NumberedLiteral) (values : List (Option Bool)) → AreKept F shapes → Agree values list → IsEnded shapes given list → ((list : List NumberedLiteral) × IsCompletion F given list × Gives list values) × (MeetsConflict F given → ⊥)
unfolding says
ended-completion F shapes given list values a g e =
    let d = derives F shapes given e.derived.first list a (given-matches given e.derived.first e.derived.within e.derived.covers) e.derived.derived in
    let closed = is-closed F shapes d.list list a d.matches e.settled in (
      (d.list, record { derived = d.derived; closed = closed }, λ v n. grind (arith, d.matches (literal v n), g (literal v n), n)),
      closed-none F given d.list d.derived closed (has-none F shapes d.list list a d.matches (λ l here. opposite values list l g here) e.settled),
    )
