-- Logged and shown solutions, and what they do once their parts are done
use Rattle.pb_replay.proofs.{Common.Closing, Common.Conclude, Common.IsBest, Common.state_of, Common.NoSolution, Common.State, lemmas.meaning.Accepting.needed}
use Rattle.pb_replay.proofs.Common.{ℕ, ◌<◌, ◌∙◌, ◌≡◌, arith, Bool, false, get_or, inl, inr, length, List, not, refl, sym, true, Ok, both_ways, cases_Bool}
use Rattle.pb_replay.proofs.Common.{cond-true, not-true, not_from_false, get_or_default, NumberedLiteral, Form, Holds, total, true_at, assignment, on, only}
use Rattle.pb_replay.proofs.Common.{only-true, total-within, HoldAll, IsCompletion, MeetsConflict, IsSolution, Problem, AreValues, Completed, Excludes}
use Rattle.pb_replay.proofs.Common.{HasValue, Logged, logged_of, negations, no_form, value, ℤ, ◌⊎◌, ap, Err, None, rules, Some, Contains, IsSome, Option}
use Rattle.pb_replay.proofs.Common.{Result, Gives, value_says, begin, broken, Derivation, HasConflict, MayPropagate, opposed, put, ok_or_err, ReturnsValue}
use Rattle.pb_replay.proofs.Common.{Fault, Conflict, Memory, AllHold, AreTotal, Judged, Answer, Shown, Solution, ◌++◌, ◌∷◌, [], All, cond, subst, option_map}
use Rattle.pb_replay.proofs.Common.{or_cases, All-head, All-tail, Contains-get_or, Soli, Solx, only-self, rising-positive, total-has, Live, Linear, Literal}
use Rattle.pb_replay.proofs.Common.{Term, GoesAt, IsInside, Logs, problem_of, Running, Demands, numbered, is_some, map, Verdict, get_or-map, length-map, Sat}
use Rattle.pb_replay.proofs.lemmas.{meaning.Propagated.true_at-not, meaning.Relating.single-completed, rules.Live.Live-loaded}
use Rattle.pb_replay.proofs.lemmas.meaning.{Accepting.eached, Accepting.ok-same, Propagated.AreTrue, Propagated.on-negations, Propagated.derivation-true}

-- what an accepted completion has
pub record IsTaken (v : Problem) (forms : Form → Type 0) (names : ℕ) (given : List NumberedLiteral) (g : Logged) : Type 0 where
  pub list : List NumberedLiteral
  pub completion : IsCompletion forms given list
  pub total : (k : ℕ) → k < names → HasValue list k
  pub values : AreValues list names g.values
  pub solution : IsSolution v (assignment g.values)
  pub value_is : g.value ≡ value v (assignment g.values)

solution-of : (v : Problem) (a : ℕ → Bool) → ((k : ℕ) → k < length v.loaded → Holds a (get_or v.loaded k no_form)) → IsSolution v a
solution-of v a h f (k, lt, is) = rw (get_or_default v.loaded k no_form f lt ∙ is) at (h k lt)

pub Completed-taken : (v : Problem) (forms : Form → Type 0) (names : ℕ) (given : List NumberedLiteral) (g : Logged) → Completed v forms names given (Ok g) → IsTaken v forms names given g
Completed-taken v forms names given g h =
    let free = needed h in let list = free.1 in let full = eached list.2 in let values = full.1 in let holds = eached values.2 in
    let is : g ≡ logged_of v values.0 = ok-same holds.1 in
    let taken : IsTaken v forms names given (logged_of v values.0) = record {
      list = list.0;
      completion = list.1;
      total = full.0;
      values = values.1;
      solution = solution-of v (assignment values.0) holds.0;
      value_is = refl;
    } in
    rw is taken

-- an assignment at which the forms and the given literals hold is the completion
pub taken-known : (v : Problem) (forms : Form → Type 0) (names : ℕ) (given : List NumberedLiteral) (g : Logged) (a : ℕ → Bool) → IsTaken v forms names given g → HoldAll a forms → AreTrue a given → (k : ℕ) → k < names → a k ≡ assignment g.values k
taken-known v forms names given g a t holds h k lt =
    let list = derivation-true forms a given t.list holds h t.completion.derived in
    elim (t.total k lt) [
      | inl plain ↦ list k false plain ∙ sym (t.values.each k lt ∙ plain)
      | inr negated ↦
          elim (cases_Bool (on t.list k false)) [
            | inl plain ↦ absurd (both_ways _ (not-true (a k) (list k true negated)) (list k false plain))
            | inr gone ↦ not-true (a k) (list k true negated) ∙ sym (t.values.each k lt ∙ gone)
          ]
    ]

-- if the clause fails, all given literals are true
not_off : (given : List NumberedLiteral) (x : ℕ) (n : Bool) → on given x n ≡ true → on given x (not (not n)) ≡ true
not_off given x n h = grind arith

pub clause-fails : (given : List NumberedLiteral) (r : Form) (a : ℕ → Bool) → Excludes given r → total (true_at a) r.terms < r.degree → AreTrue a given
clause-fails given r a c low x n h =
    elim (cases_Bool (true_at a x n)) [
      | inl here ↦ here
      | inr gone ↦
          let one = c.coefficients x (not n) ∙ cond-true (on (negations given) x (not n)) 1 0 (on-negations given x (not n) ∙ not_off given x n h) in
          let less = total-within (only x (not n)) (true_at a) (λ w m e. let same = only-true x (not n) w m e in at_other w m same.0 same.1 gone) r.terms in
          absurd (omega (arith, one, less, c.degree_is))
    ]
  where
    at_other : (w : ℕ) (m : Bool) → w ≡ x → m ≡ not n → true_at a x n ≡ false → true_at a w m ≡ true
    at_other w m e f gone = rw (e, f) (true_at-not a x n ∙ not_from_false (true_at a x n) gone)

-- what a value says of the plain literal and of its negation
says-some : (o : Option Bool) (m : Bool) → o ≡ Some m → (value_says o false ≡ m) × (value_says o true ≡ not m)
says-some o m e = grind arith

is-some : (o : Option Bool) (b : Bool) → o ≡ Some b → IsSome o
is-some o b e = grind arith

has-value : (list : List NumberedLiteral) (k : ℕ) (o : Option Bool) → ((n : Bool) → on list k n ≡ value_says o n) → IsSome o → HasValue list k
has-value list k o h s = grind (arith, h)

has-none : (list : List NumberedLiteral) (k : ℕ) (o : Option Bool) → ((n : Bool) → on list k n ≡ value_says o n) → (IsSome o → ⊥) → HasValue list k → ⊥
has-none list k o h s v = grind (arith, h)

module _ (v : Problem) (list : List NumberedLiteral) (given : List (Option Bool)) (says : Gives list given) (names : ℕ) where
  values-of : (values : List Bool) → AreTotal given names values → AreValues list names values
  values-of values t = record {
    count = t.count;
    each = λ k lt. let here = says-some (get_or given k None) (get_or values k false) (t.each k lt) in sym (says k false ∙ here.0);
  }

  pub judged-solution : (r : Result Logged Fault) → Judged v names given r → Solution v names list r
  judged-solution r h = grind (arith, has-value, has-none, values-of)

-- the same over a set of forms
module _ (F G : Form → Type 0) (to : (f : Form) → F f → G f) where
  put-to : (list : List NumberedLiteral) (l : NumberedLiteral) → MayPropagate F list l → MayPropagate G list l
  put-to list l m = record {
    absent = m.absent;
    not_falsified = m.not_falsified;
    form = m.form;
    among = to m.form m.among;
    stands = m.stands;
    forced = m.forced;
  }

  derivation-to : (given list : List NumberedLiteral) → Derivation F given list → Derivation G given list
  derivation-to given _ begin = begin
  derivation-to given _ (put {list} l d m) = put l (derivation-to given list d) (put-to list l m)

  conflict-to : (list : List NumberedLiteral) → HasConflict F list → HasConflict G list
  conflict-to list (opposed v h k) = opposed v h k
  conflict-to list (broken f among low) = broken f (to f among) low

  pub meets-to : (given : List NumberedLiteral) → MeetsConflict F given → MeetsConflict G given
  meets-to given m = record { list = m.list; derived = derivation-to given m.list m.derived; conflict = conflict-to m.list m.conflict }

module _ (F G : Form → Type 0) (to : (f : Form) → F f → G f) (back : (f : Form) → G f → F f) where
  pub completion-to : (given list : List NumberedLiteral) → IsCompletion F given list → IsCompletion G given list
  completion-to given list c = record { derived = derivation-to F G to given list c.derived; closed = λ l m. c.closed l (put-to G F back list l m) }

  pub completed-to : (v : Problem) (names : ℕ) (given : List NumberedLiteral) (r : Result Logged Fault) → Completed v F names given r → Completed v G names given r
  completed-to v names given r (inl (free, (list, is, rest))) = inl (λ m. free (meets-to G F back given m), (list, completion-to given list is, rest))
  completed-to v names given r (inr (bad, e)) = inr (λ free. bad (λ m. free (meets-to F G to given m)), e)

-- a completion without a conflict, judged
pub judged-completed : (v : Problem) (F : Form → Type 0) (names : ℕ) (given : List NumberedLiteral) (values : List (Option Bool)) → (MeetsConflict F given → ⊥) → (list : List NumberedLiteral) × IsCompletion F given list × Gives list values → (r : Result Logged Fault) → Judged v names values r → Completed v F names given r
judged-completed v F names given values free (list, is, says) r h = inl (free, (list, is, judged-solution v list values says names r h))

-- the parts of a judgement
pub judged-ok : (v : Problem) (names : ℕ) (given : List (Option Bool)) (values : List Bool) (u : Unit {0}) (z : ℤ) → AreTotal given names values → AllHold v.loaded values (Ok u) → z ≡ value v (assignment values) → (g : Logged) × Judged v names given (Ok g) × (g.value ≡ z)
judged-ok v names given values u z total holds is =
    (logged_of v values, inl (values, inl (λ k lt. is-some (get_or given k None) (get_or values k false) (total.each k lt), (values, total, refl)), inl (u, holds, refl)), sym is)

pub judged-err : (v : Problem) (names : ℕ) (given : List (Option Bool)) (values : List Bool) (e : Fault) → AreTotal given names values → AllHold v.loaded values (Err e) → Judged v names given (Err e)
judged-err v names given values e total holds =
    inl (values, inl (λ k lt. is-some (get_or given k None) (get_or values k false) (total.each k lt), (values, total, refl)), inr (e, holds, refl))

-- the same value by another answer
pub value-by : (P Q : Answer Logged) → ((r : Result Logged Fault) → P r → Q r) → (result : Result ℤ Fault) → ReturnsValue P result → ReturnsValue Q result
value-by P Q to (Ok z) (g, h, is) = (g, to (Ok g) h, is)
value-by P Q to (Err e) (inl memory) = inl memory
value-by P Q to (Err e) (inr h) = inr (to (Err e) h)

module _ (v : Problem) (F : Form → Type 0) (names : ℕ) (given : List NumberedLiteral) where
  pub completed-value : (values : List (Option Bool)) → (MeetsConflict F given → ⊥) → (list : List NumberedLiteral) × IsCompletion F given list × Gives list values → (result : Result ℤ Fault) → ReturnsValue (Judged v names values) result → ReturnsValue (Completed v F names given) result
  completed-value values free done = value-by (Judged v names values) (Completed v F names given) (judged-completed v F names given values free done)

  pub conflicting-value : (e : Fault) → (e ≡ Memory) ⊎ ((e ≡ Conflict) × MeetsConflict F given) → ReturnsValue (Completed v F names given) (Err e)
  conflicting-value e (inl memory) = inl memory
  conflicting-value e (inr (is, meets)) = inr (inr (λ free. free meets, let to : Fault → Result Logged Fault = λ d. Err d in ap to is))

-- a solution of the instance's own constraints is shown, or there is none
pub shown-none : (v : Problem) (given : List NumberedLiteral) (e : Fault) → Completed v (Contains v.loaded) (length v.names) given (Err e) → (g : Logged) → Shown v given g → ⊥
shown-none v given e h g s = ok_or_err (single-completed v (Contains v.loaded) (length v.names) given (Ok g) (Err e) s h)

-- literals that complete to something are not opposed
pub apart : (v : Problem) (F : Form → Type 0) (n : ℕ) (given : List NumberedLiteral) (g : Logged) → Completed v F n given (Ok g) → (x : ℕ) → on given x true ≡ true → on given x false ≡ true → ⊥
apart v F n given g h x t f = (needed h).0 (record { list = given; derived = begin; conflict = opposed x t f })

module _ (old : Running) (given : List NumberedLiteral) (written : List Literal) (numbers : given ≡ numbered old.names written) where
  over : (r : Result Logged Fault) → Completed (problem_of old) (Live old.constraints.forms) (length old.names) given r → Completed (problem_of old) (Live old.constraints.forms) (length old.names) (numbered old.names written) r
  over r c = subst (λ (x : List NumberedLiteral). Completed (problem_of old) (Live old.constraints.forms) (length old.names) x r) numbers c

  pub solx-ok : (z : ℤ) (form : Form) (result : Result Unit Fault) (new : Running) → (g : Logged) × Completed (problem_of old) (Live old.constraints.forms) (length old.names) given (Ok g) × (g.value ≡ z) → Excludes given form → Logs old z form result new → GoesAt old (Solx written) result new
  solx-ok z form (Ok u) new (g, done, value) clause h = λ logged best.
      let k = h logged g best value in
      (logged ++ g ∷ [], k.0, inl (g, over (Ok g) done, (form, subst (λ (x : List NumberedLiteral). Excludes x form) numbers clause, k.1)))
  solx-ok z form (Err e) new (g, done, value) clause (inl memory) = inl memory
  solx-ok z form (Err e) new (g, done, value) clause (inr h) = inr (λ logged best. inl (g, over (Ok g) done, (form, subst (λ (x : List NumberedLiteral). Excludes x form) numbers clause, h logged g)))

  pub solx-err : (e : Fault) (new : Running) → Completed (problem_of old) (Live old.constraints.forms) (length old.names) given (Err e) → GoesAt old (Solx written) (Err e) new
  solx-err e new h = inr (λ logged best. inr (e, over (Err e) h, refl))

  pub soli-ok : (z : ℤ) (o : List Term) (result : Result Unit Fault) (new : Running) → (problem_of old).objective ≡ Some o → (g : Logged) × Completed (problem_of old) (Live old.constraints.forms) (length old.names) given (Ok g) × (g.value ≡ z) → Demands old z result new → GoesAt old (Soli written) result new
  soli-ok z o (Ok u) new has (g, done, value) h = λ logged best.
      let k = h logged g o best value has in (logged ++ g ∷ [], k.0, inl (o, has, inl (g, over (Ok g) done, k.1)))
  soli-ok z o (Err e) new has (g, done, value) (inl memory) = inl memory
  soli-ok z o (Err e) new has (g, done, value) (inr h) = inr (λ logged best. inl (o, has, inl (g, over (Ok g) done, h logged g o value has)))

  pub soli-err : (o : List Term) (e : Fault) (new : Running) → (problem_of old).objective ≡ Some o → Completed (problem_of old) (Live old.constraints.forms) (length old.names) given (Err e) → GoesAt old (Soli written) (Err e) new
  soli-err o e new has h = inr (λ logged best. inl (o, has, inr (e, over (Err e) h, refl)))

pub negations-apart : (given : List NumberedLiteral) → ((x : ℕ) → on given x true ≡ true → on given x false ≡ true → ⊥) → (x : ℕ) → on (negations given) x true ≡ true → on (negations given) x false ≡ true → ⊥
negations-apart given h x t f = h x (sym (on-negations given x false) ∙ f) (sym (on-negations given x true) ∙ t)

-- a literal of a list of those below a number is below it
on-below : (given : List NumberedLiteral) (n x : ℕ) (m : Bool) → All (λ l. l.variable < n) given → on given x m ≡ true → x < n
on-below [] n x m h e = cc
on-below (l ∷ ls) n x m h e =
    elim (or_cases (only l.variable l.negated x m) (on ls x m) e) [
      | inl here ↦ let same = only-true l.variable l.negated x m here in omega (arith, same.0, All-head (λ (k : NumberedLiteral). k.variable < n) l ls h)
      | inr rest ↦ on-below ls n x m (All-tail (λ (k : NumberedLiteral). k.variable < n) l ls h) rest
    ]

counts-true : (b : Bool) → 0 < cond b 1 0 → b ≡ true
counts-true b h = grind arith

pub count-inside : (given : List NumberedLiteral) (r : Form) (n : ℕ) → Excludes given r → All (λ l. l.variable < n) given → IsInside n r
count-inside given r n h below k d lt =
    let t = get_or r.terms k d in let there = Contains-get_or r.terms k d lt in
    let some : 0 < total (only t.variable t.negated) r.terms = omega (arith, total-has (only t.variable t.negated) r.terms t there (only-self t.variable t.negated), rising-positive 0 r.terms t h.ordered there) in
    let here = counts-true (on (negations given) t.variable t.negated) (omega (arith, some, h.coefficients t.variable t.negated)) in
    on-below given n t.variable (not t.negated) below (sym (on-negations given t.variable t.negated) ∙ here)

pub some-objective : (r : Running) → IsSome r.objective → (o : List Term) × ((problem_of r).objective ≡ Some o)
some-objective r h = at r.objective h
  where
    at : (o : Option Linear) → IsSome o → (ts : List Term) × (option_map (λ (x : Linear). x.terms) o ≡ Some ts)
    at None k = absurd (search rules)
    at (Some linear) k = (linear.terms, refl)

loaded-live : (forms : List Form) (f : Form) → Contains forms f → Live (map (λ (f : Form). let o : Option Form = Some f in o) forms) f
loaded-live forms f (k, lt, is) = (k, omega (arith, lt, length-map forms (λ (f : Form). let o : Option Form = Some f in o)), get_or-map (λ (f : Form). let o : Option Form = Some f in o) forms k f (Some f) lt ∙ ap (λ (f : Form). let o : Option Form = Some f in o) is)

module _ (v : Problem) (live : List (Option Form)) (same : live ≡ map (λ (f : Form). let o : Option Form = Some f in o) v.loaded) (names : ℕ) (given : List NumberedLiteral) where
  own-to : (r : Result Logged Fault) → Completed v (Live live) names given r → Completed v (Contains v.loaded) names given r
  own-to r h =
      completed-to (Live live) (Contains v.loaded) (λ f c. Live-loaded v.loaded f (subst (λ (l : List (Option Form)). Live l f) same c)) (λ f c. subst (λ (l : List (Option Form)). Live l f) (sym same) (loaded-live v.loaded f c)) v names given r h

  pub own-value : (result : Result ℤ Fault) → ReturnsValue (Completed v (Live live) names given) result → ReturnsValue (Completed v (Contains v.loaded) names given) result
  own-value = value-by (Completed v (Live live) names given) (Completed v (Contains v.loaded) names given) own-to

  pub own-conflict : (e : Fault) → (e ≡ Memory) ⊎ ((e ≡ Conflict) × MeetsConflict (Live live) given) → ReturnsValue (Completed v (Contains v.loaded) names given) (Err e)
  own-conflict e h = own-value (Err e) (conflicting-value v (Live live) names given e h)

module _ (old new : Running) (given : List NumberedLiteral) (written : List Literal) (numbers : given ≡ numbered old.names written) where
  pub sat-ok : new.best ≡ old.best → (g : Logged) → Shown (problem_of old) given g → ((logged : List Logged) → state_of new logged ≡ record (state_of old logged) { next = Closing; concluded = Some Verdict.Sat }) → GoesAt old (Conclude (Sat (Some written))) (Ok tt) new
  sat-ok b g shown same = λ logged best.
      (logged, subst (λ (o : Option ℤ). IsBest logged o) (sym b) best, inl (g, subst (λ (x : List NumberedLiteral). Shown (problem_of old) x g) numbers shown, let to : State → Result State Fault = λ s. Ok s in ap to (same logged)))

  pub sat-err : (e : Fault) → (e ≡ Memory) ⊎ ((e ≡ NoSolution) × ((g : Logged) → Shown (problem_of old) given g → ⊥)) → GoesAt old (Conclude (Sat (Some written))) (Err e) new
  sat-err e (inl memory) = inl memory
  sat-err e (inr (is, none)) = inr (λ logged best. inr (λ g s. none g (subst (λ (x : List NumberedLiteral). Shown (problem_of old) x g) (sym numbers) s), let to : Fault → Result State Fault = λ d. Err d in ap to is))

pub logged-some : (logged : List Logged) (best : Option ℤ) → is_some best ≡ true → IsBest logged best → (g : Logged) × Contains logged g
logged-some logged best e h = grind arith
