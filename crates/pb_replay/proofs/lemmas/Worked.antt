-- Forms on two variables, short proofs over them that are accepted, and conclusions that are rejected
use Rattle.pb_normal.specs.declared.Side.TheVariants.{AtLeast as least, AtMost as most}
use Rattle.{pb_propagate.proofs.lemmas.engine.Literals.literal, pb_replay.specs.contract.Example.both_on, pb_replay.specs.contract.Example.opposed}
use Rattle.pb_replay.proofs.Common.{ℕ, ◌<◌, ◌∙◌, ◌∷◌, ◌≡◌, [], ap, arith, Bool, cond, false, inl, List, None, not, refl, Some, subst, suc, sym, zero, Contains}
use Rattle.pb_replay.proofs.Common.{Ok, Option, Entry, NumberedLiteral, Form, Holds, total, assignment, on, only, begin, Live, MayPropagate, Term, name_x, true}
use Rattle.pb_replay.proofs.Common.{name_y, Problem, AreValues, Completed, Excludes, HasValue, logged_of, negations, same_Some, slice_get, ◌++◌, ◌≤ℤ◌, ◌≤◌, All}
use Rattle.pb_replay.proofs.Common.{inr, length, map, pos, Fits, IsSum, negation_of, IsFormOf, IsSideOf, Finite, Steps, Concluding, Statement, Conclude, End, F}
use Rattle.pb_replay.proofs.Common.{Header, Solx, Constraint, Sum, Tree, broken, IsRup, put, With, all_logged, at_least_one, best_logged, best_proof, Linear}
use Rattle.pb_replay.proofs.Common.{both_terms, bounds_of, either, logged_proof, other_proof, Refuses, short_proof, shown_proof, unit_on, Verifies, NotBound}
use Rattle.pb_replay.proofs.Common.{SolutionLogged, objective_with, propagated, Opened, first_state, FormOfExpression, Logged, State, Accepts, IsCount, Outcome}
use Rattle.{pb_replay.proofs.Common.ints, pb_replay.proofs.Common.drop, pb_replay.proofs.Common.take, std.proofs.lemmas.List.Elements.All-from_recursion}
use Rattle.pb_replay.proofs.lemmas.meaning.Propagated.{AreTrue, on-negations, conflict-none}
use Rattle.pb_proof.specs.declared.Conclusion.TheVariants as conclusion
use Rattle.pb_replay.specs.declared.verdict.Verdict.TheVariants as verdict

abbrev pub entry : ℕ → Bool → Entry
entry x negated = record { variable = x; negated = negated; coefficient = 1 }

abbrev pub pair : Bool → Bool → ℕ → Form
pair m n degree = record { terms = entry 0 m ∷ entry 1 n ∷ []; degree = degree }

abbrev pub given : Bool → Bool → List NumberedLiteral
given m n = record { variable = 0; negated = m } ∷ record { variable = 1; negated = n } ∷ []

abbrev pub values : Bool → Bool → List Bool
values m n = not m ∷ not n ∷ []

abbrev pub problem : Option (List Term) → Problem
problem objective = record { loaded = pair false false 1 ∷ []; objective = objective; names = name_x ∷ name_y ∷ [] }

-- a pair, and it holds at the values of two literals
pub record IsMet (m n : Bool) (f : Form) : Type 0 where
  pub holds : Holds (assignment (values m n)) f
  pub outside : (x : ℕ) (b : Bool) → total (only (suc (suc x)) b) f.terms ≡ 0

-- the variables after those two
far-total : (m n : Bool) (d x : ℕ) (b : Bool) → total (only (suc (suc x)) b) (pair m n d).terms ≡ 0
far-total m n d x b = grind (arith)

far-on : (m n : Bool) (x : ℕ) (b : Bool) → on (given m n) (suc (suc x)) b ≡ false
far-on m n x b = grind (arith)

pub met : (m n a b : Bool) (d : ℕ) → Holds (assignment (values m n)) (pair a b d) → IsMet m n (pair a b d)
met m n a b d h = record { holds = h; outside = far-total a b d }

true-given : (m n : Bool) → AreTrue (assignment (values m n)) (given m n)
true-given m n = grind (arith)

-- one of a literal and its negation is given
one-given : (m n : Bool) (x : ℕ) (b : Bool) → x < 2 → on (given m n) x b ≡ false → on (given m n) x (not b) ≡ false → ⊥
one-given m n zero b lt e f = grind arith
one-given m n (suc zero) b lt e f = grind arith
one-given m n (suc (suc x)) b lt e f = omega (arith, lt)

has-value : (m n : Bool) (k : ℕ) → k < 2 → HasValue (given m n) k
has-value m n zero lt = grind arith
has-value m n (suc zero) lt = grind arith
has-value m n (suc (suc k)) lt = absurd (omega (arith, lt))

are-values : (m n : Bool) → AreValues (given m n) 2 (values m n)
are-values m n = grind (arith)

module _ (F : Form → Type 0) (m n : Bool) (all : (f : Form) → F f → IsMet m n f) where
  closed : (l : NumberedLiteral) → MayPropagate F (given m n) l → ⊥
  closed l p = at l.variable l.negated p.absent p.not_falsified p.form (all p.form p.among) p.stands
    where
      at : (x : ℕ) (b : Bool) → on (given m n) x b ≡ false → on (given m n) x (not b) ≡ false → (f : Form) → IsMet m n f → 0 < total (only x b) f.terms → ⊥
      at zero b e g f is stands = one-given m n zero b (omega arith) e g
      at (suc zero) b e g f is stands = one-given m n (suc zero) b (omega arith) e g
      at (suc (suc x)) b e g f is stands = let none = is.outside x b in omega (arith, none, stands)

  pub completed : (objective : Option (List Term)) → Holds (assignment (values m n)) (pair false false 1) → Completed (problem objective) F 2 (given m n) (Ok (logged_of (problem objective) (values m n)))
  completed objective own =
      inl (
        conflict-none F (assignment (values m n)) (given m n) (λ f h. (all f h).holds) (true-given m n),
        (given m n, record { derived = begin; closed = closed }, inl (has-value m n, (values m n, are-values m n, inl (λ k lt. grind (arith, own), refl)))),
      )

-- what is true of each item of a short list
abbrev pub Each : {A : Type 0} → (A → Type 0) → List A → Type 0
Each P [] = Unit {0}
Each P (x ∷ xs) = P x × Each P xs

pub each-contains : {A : Type 0} (P : A → Type 0) (xs : List A) (x : A) → Each P xs → Contains xs x → P x
each-contains P [] x all (k, lt, is) = absurd (omega (arith, lt))
each-contains P (y ∷ xs) x all (zero, lt, is) = subst P is all.0
each-contains P (y ∷ xs) x all (suc k, lt, is) = each-contains P xs x all.1 (k, omega (arith, lt), is)

-- the same of each number and its name
abbrev pub EachAt : (ℕ → List ℕ → Type 0) → List (List ℕ) → Type 0
EachAt P [] = Unit {0}
EachAt P (n ∷ ns) = P 0 n × EachAt (λ x. P (suc x)) ns

pub each-at : (P : ℕ → List ℕ → Type 0) (names : List (List ℕ)) → EachAt P names → (x : ℕ) (name : List ℕ) → slice_get names x ≡ Some name → P x name
each-at P [] all x name e = absurd cc
each-at P (n ∷ ns) all zero name e = subst (P 0) (same_Some _ _ e) all.0
each-at P (n ∷ ns) all (suc x) name e = each-at (λ y. P (suc y)) ns all.1 x name e

abbrev pub OfLive : (Form → Type 0) → Option Form → Type 0
OfLive P None = Unit {0}
OfLive P (Some f) = P f

pub live-met : (m n : Bool) (live : List (Option Form)) → Each (OfLive (IsMet m n)) live → (f : Form) → Live live f → IsMet m n f
live-met m n live all f c = each-contains (OfLive (IsMet m n)) live (Some f) all c

pub own-met : (m n : Bool) → Holds (assignment (values m n)) (pair false false 1) → (f : Form) → Contains (pair false false 1 ∷ []) f → IsMet m n f
own-met m n own f c = each-contains (IsMet m n) (pair false false 1 ∷ []) f (met m n false false 1 own, tt) c

pub clause-of : (m n : Bool) → Excludes (given m n) (pair (not m) (not n) 1)
clause-of m n = record { ordered = (omega arith, omega arith, (omega arith, omega arith, tt)); coefficients = each m n; degree_is = refl }
  where
    each : (m n : Bool) (x : ℕ) (b : Bool) → total (only x b) (pair (not m) (not n) 1).terms ≡ cond (on (negations (given m n)) x b) 1 0
    each m n zero b = grind arith
    each m n (suc zero) b = grind arith
    each m n (suc (suc x)) b = far-total (not m) (not n) 1 x b ∙ sym (ap (λ e. cond e 1 0) (on-negations (given m n) (suc (suc x)) b ∙ far-on m n x (not b)))

-- forms on one name, and one that is a contradiction
abbrev one : Bool → Form
one n = record { terms = entry 0 n ∷ []; degree = 1 }

abbrev nothing : Form
nothing = record { terms = []; degree = 1 }

abbrev opposites : Problem
opposites = record { loaded = one false ∷ one true ∷ []; objective = None; names = name_x ∷ [] }

abbrev names : List (List ℕ)
names = name_x ∷ name_y ∷ []

-- a state among the steps
abbrev stepping : List (List ℕ) → List (Option Form) → List Logged → State
stepping ns live logged = record { live = live; names = ns; logged = logged; next = Steps; concluded = None }

-- the first two statements, and more after them
begun : (v : Problem) (count : Option ℕ) (sts : List Statement) (t : State) → IsCount count (length v.loaded) → length v.loaded ≤ 9
    → Accepts 127 9 v (stepping v.names (map (λ f. Some f) v.loaded) []) sts t
    → Accepts 127 9 v (first_state v) (Header ∷ F count ∷ sts) t
begun v count sts t is few h = (_, inl (refl, refl), (_, inl (refl, inl (is, inl (few, refl))), h))

-- statements that are accepted, and more after them
then : (v : Problem) (s u t : State) (sts more : List Statement) → Accepts 127 9 v s sts u → Accepts 127 9 v u more t → Accepts 127 9 v s (sts ++ more) t
then v s u t [] more e h = rw e h
then v s u t (st ∷ sts) more (w, out, rest) h = (w, out, then v w u t sts more rest h)

-- the forms of the terms
below_one : (n : Bool) → All (λ t. t.variable < 1) (one n).terms
below_one n = All-from_recursion (λ (t : Entry). t.variable < 1) (one n).terms (omega arith, tt)

below : (m n : Bool) (d : ℕ) → All (λ t. t.variable < 2) (pair m n d).terms
below m n d = All-from_recursion (λ (t : Entry). t.variable < 2) (pair m n d).terms (omega arith, (omega arith, tt))

plain_form : IsFormOf (name_x ∷ []) ((unit_on false).terms) (pos 1) (one false)
plain_form = grind (arith, below_one, each-at)

negated_form : IsFormOf (name_x ∷ []) ((unit_on true).terms) (pos 1) (one true)
negated_form = grind (arith, below_one, each-at)

least_form : IsSideOf names least (at_least_one both_terms) (pair false false 1)
least_form = grind (arith, below, each-at, pair)

most_form : IsSideOf names most (objective_with both_terms (pos 0)) (pair true true 2)
most_form = grind (arith, below, each-at, pair, literal)

unit_form : IsFormOf names ((unit_on false).terms) (pos 1) (one false)
unit_form = grind (arith, each-at)

nothing_form : (ns : List (List ℕ)) → IsFormOf ns [] (pos 1) nothing
nothing_form ns = record { ordered = tt; named = λ k d lt. absurd (omega (arith, lt)); coefficients = λ x name e. refl; degree = refl }

opposed-opened : Opened 127 opposed (Ok opposites)
opposed-opened =
    inl (record { constraints = λ c. each-contains (Fits 127) (opposed.constraints) c (omega arith, (omega arith, tt)); objective = omega arith }, (opposites.loaded, (plain_form, (negated_form, tt)), refl))

either-fits : (o : Option (List Term)) (c : Linear) → Contains ((either o).constraints) c → Fits 127 c
either-fits o c = each-contains (Fits 127) ((either o).constraints) c (omega arith, tt)

opened : Opened 127 (either None) (Ok (problem None))
opened = inl (record { constraints = either-fits None; objective = omega arith }, (pair false false 1 ∷ [], (least_form, tt), refl))

opened_with : Opened 127 (either (Some both_terms)) (Ok (problem (Some both_terms)))
opened_with = inl (record { constraints = either-fits (Some both_terms); objective = omega arith }, (pair false false 1 ∷ [], (least_form, tt), refl))

-- the sum of the first two constraints
abbrev tree : Tree
tree = Sum (Constraint (pos 1)) (Constraint (pos 2))

tree-made : (ns : List (List ℕ)) (f g : Form) → IsSum f g nothing → FormOfExpression 127 ns (Some f ∷ Some g ∷ []) tree (Ok nothing)
tree-made ns f g is = inl (f, inl (f, refl, refl), inl (g, inl (g, refl, refl), (nothing, is, inl (record { size_in = omega arith; degree_in = omega arith }, refl))))

opposed-sum : IsSum (one false) (one true) nothing
opposed-sum = record { ordered = tt; coefficients = λ v. grind arith; degree = refl }

pair-sum : IsSum (pair false false 1) (pair true true 2) nothing
pair-sum = record { ordered = tt; coefficients = λ v. grind arith; degree = refl }

pub short-accepted : Verifies opposed short_proof verdict.Unsat
short-accepted = (
  opposites,
  _,
  opposed-opened,
  begun opposites (Some 2) (drop 2 short_proof) _ refl (omega arith) (
    _,
    inl (refl, (tree, refl, inl (nothing, tree-made (name_x ∷ []) _ _ opposed-sum, inl (omega arith, refl)))),
    (_, inl (refl, refl), (_, inl (refl, inl (refl, inl (nothing, refl, inl (omega arith, refl)))), (_, inl (refl, refl), refl))),
  ),
  refl,
)

opposed_rup : IsRup (Live (Some (one false) ∷ Some (one true) ∷ [])) nothing
opposed_rup = inr (record {
  list = literal 0 false ∷ [];
  derived = put (literal 0 false) begin first;
  conflict = broken (one true) (inl (1, omega arith, refl)) (omega arith);
})
  where
    first : MayPropagate (With (Live (Some (one false) ∷ Some (one true) ∷ [])) (negation_of nothing)) [] (literal 0 false)
    first = record { absent = refl; not_falsified = refl; form = one false; among = inl (0, omega arith, refl); stands = omega arith; forced = omega arith }

pub other-accepted : Verifies opposed other_proof verdict.Unsat
other-accepted = (
  opposites,
  _,
  opposed-opened,
  begun opposites None (drop 2 other_proof) _ tt (omega arith) (
    _,
    inl (refl, inl (omega arith, (nothing, nothing_form _, inl (opposed_rup, inl (omega arith, refl))))),
    (_, inl (refl, refl), (_, inl (refl, inl (refl, inl (nothing, refl, inl (omega arith, refl)))), (_, inl (refl, refl), refl))),
  ),
  refl,
)

-- the live forms while solutions are logged
abbrev live_1 : List (Option Form)
live_1 = Some (pair false false 1) ∷ []

abbrev live_2 : List (Option Form)
live_2 = Some (pair false false 1) ∷ Some (pair true true 1) ∷ []

abbrev live_3 : List (Option Form)
live_3 = Some (pair false false 1) ∷ Some (pair true true 1) ∷ Some (pair true false 1) ∷ []

abbrev live_4 : List (Option Form)
live_4 = Some (pair false false 1) ∷ Some (pair true true 1) ∷ Some (pair true false 1) ∷ Some (pair false true 1) ∷ []

abbrev live_5 : List (Option Form)
live_5 = Some (pair false false 1) ∷ Some (pair true true 1) ∷ Some (pair true false 1) ∷ Some (pair false true 1) ∷ Some (one false) ∷ []

-- with x1 false: then x2 is true, by the first form, and the fourth is violated
unit_rup : IsRup (Live live_4) (one false)
unit_rup = inr (record {
  list = literal 1 false ∷ literal 0 true ∷ [];
  derived = put (literal 1 false) (put (literal 0 true) begin first) second;
  conflict = broken (pair false true 1) (inl (3, omega arith, refl)) (omega arith);
})
  where
    first : MayPropagate (With (Live live_4) (negation_of (one false))) [] (literal 0 true)
    first = record { absent = refl; not_falsified = refl; form = negation_of (one false); among = inr refl; stands = omega arith; forced = omega arith }

    second : MayPropagate (With (Live live_4) (negation_of (one false))) (literal 0 true ∷ []) (literal 1 false)
    second = record { absent = refl; not_falsified = refl; form = pair false false 1; among = inl (0, omega arith, refl); stands = omega arith; forced = omega arith }

-- with x1 true: then x2 is false, by the second form, and the third is violated
nothing_rup : IsRup (Live live_5) nothing
nothing_rup = inr (record {
  list = literal 1 true ∷ literal 0 false ∷ [];
  derived = put (literal 1 true) (put (literal 0 false) begin first) second;
  conflict = broken (pair true false 1) (inl (2, omega arith, refl)) (omega arith);
})
  where
    first : MayPropagate (With (Live live_5) (negation_of nothing)) [] (literal 0 false)
    first = record { absent = refl; not_falsified = refl; form = one false; among = inl (4, omega arith, refl); stands = omega arith; forced = omega arith }

    second : MayPropagate (With (Live live_5) (negation_of nothing)) (literal 0 false ∷ []) (literal 1 true)
    second = record { absent = refl; not_falsified = refl; form = pair true true 1; among = inl (1, omega arith, refl); stands = omega arith; forced = omega arith }

-- a solution that is logged is excluded
logged : (m n : Bool) (live : List (Option Form)) (before : List Logged) → length live < 9 → Each (OfLive (IsMet m n)) live
    → Holds (assignment (values m n)) (pair false false 1)
    → Outcome 127 9 (problem None) (stepping names live before) (Solx (both_on m n)) (Ok (stepping names (live ++ Some (pair (not m) (not n) 1) ∷ []) (before ++ logged_of (problem None) (values m n) ∷ [])))
logged m n live before room all own =
    inl (refl, inl (logged_of (problem None) (values m n), completed (Live live) m n (live-met m n live all) None own, (pair (not m) (not n) 1, clause-of m n, inl (room, refl))))

abbrev all_state : State
all_state = record {
  live = live_5 ++ Some nothing ∷ [];
  names = names;
  logged = logged_of (problem None) (values false false) ∷ logged_of (problem None) (values false true) ∷ logged_of (problem None) (values true false) ∷ [];
  next = Concluding;
  concluded = None;
}

all-accepted : Accepts 127 9 (problem None) (first_state (problem None)) all_logged all_state
all-accepted =
    begun (problem None) (Some 1) (drop 2 all_logged) _ refl (omega arith) (
      _,
      logged false false live_1 [] (omega arith) (met false false false false 1 (omega arith), tt) (omega arith),
      (
        _,
        logged false true live_2 (take 1 all_state.logged) (omega arith) (met false true false false 1 (omega arith), (met false true true true 1 (omega arith), tt)) (omega arith),
        (
          _,
          logged true false live_3 (take 2 all_state.logged) (omega arith) (met true false false false 1 (omega arith), (met true false true true 1 (omega arith), (met true false true false 1 (omega arith), tt))) (omega arith),
          (
            _,
            inl (refl, inl (omega arith, (one false, unit_form, inl (unit_rup, inl (omega arith, refl))))),
            (_, inl (refl, inl (omega arith, (nothing, nothing_form names, inl (nothing_rup, inl (omega arith, refl))))), (_, inl (refl, refl), refl)),
          ),
        ),
      ),
    )

pub logged-verified : Verifies (either None) logged_proof verdict.Sat
logged-verified = (
  problem None,
  _,
  opened,
  then (problem None) (first_state (problem None)) all_state _ all_logged (Conclude (conclusion.Sat None) ∷ End ∷ []) all-accepted
      (_, inl (refl, inl ((_, (0, omega arith, refl)), refl)), (_, inl (refl, refl), refl)),
  refl,
)

pub unsat-refused : Refuses (either None) all_logged (Conclude (conclusion.Unsat None)) SolutionLogged
unsat-refused = (problem None, all_state, opened, all-accepted, inl (refl, inr (λ e. cc, refl)))

pub shown-verified : Verifies (either None) shown_proof verdict.Sat
shown-verified = (
  problem None,
  _,
  opened,
  begun (problem None) None (drop 2 shown_proof) _ tt (omega arith) (
    _,
    inl (refl, refl),
    (_, inl (refl, inl (_, completed (Contains (pair false false 1 ∷ [])) false false (own-met false false (omega arith)) None (omega arith), refl)), (_, inl (refl, refl), refl)),
  ),
  refl,
)

abbrev best : Logged
best = logged_of (problem (Some both_terms)) (values false true)

abbrev best_state : State
best_state = record {
  live = Some (pair false false 1) ∷ Some (pair true true 2) ∷ Some nothing ∷ [];
  names = names;
  logged = best ∷ [];
  next = Concluding;
  concluded = None;
}

best-accepted : Accepts 127 9 (problem (Some both_terms)) (first_state (problem (Some both_terms))) best_logged best_state
best-accepted =
    begun (problem (Some both_terms)) (Some 1) (drop 2 best_logged) _ refl (omega arith) (
      _,
      inl (refl, inl (both_terms, refl, inl (best, completed (Live live_1) false true (live-met false true live_1 (met false true false false 1 (omega arith), tt)) (Some both_terms) (omega arith), inl (omega arith, (pair true true 2, most_form, inl (omega arith, refl)))))),
      (_, inl (refl, (tree, refl, inl (nothing, tree-made names _ _ pair-sum, inl (omega arith, refl)))), (_, inl (refl, refl), refl)),
    )

at_least_best : (g : Logged) → Contains (best ∷ []) g → pos 1 ≤ℤ g.value
at_least_best g = each-contains (λ (h : Logged). pos 1 ≤ℤ h.value) (best ∷ []) g (omega arith, tt)

best_rup : IsRup (Live best_state.live) (pair false false 1)
best_rup = inr (record { list = []; derived = begin; conflict = broken nothing (inl (2, omega arith, refl)) (omega arith) })

pub best-verified : Verifies (either (Some both_terms)) best_proof (verdict.Bounds (Finite (pos 1)) (Finite (pos 1)))
best-verified = (
  problem (Some both_terms),
  _,
  opened_with,
  then (problem (Some both_terms)) (first_state (problem (Some both_terms))) best_state _ best_logged (bounds_of 1 1 ∷ End ∷ []) best-accepted (
    _,
    inl (refl, inl (both_terms, refl, inl (at_least_best, inl (omega arith, (pair false false 1, least_form, inl (propagated best_rup, inl ((best, (0, omega arith, refl)), inl ((best, (0, omega arith, refl), omega arith), refl)))))))),
    (_, inl (refl, refl), refl),
  ),
  refl,
)

pub lower-refused : Refuses (either (Some both_terms)) best_logged (bounds_of 2 2) NotBound
lower-refused = (problem (Some both_terms), best_state, opened_with, best-accepted, inl (refl, inl (both_terms, refl, inr (late, refl))))
  where
    late : ((g : Logged) → Contains (best ∷ []) g → pos 2 ≤ℤ g.value) → ⊥
    late h = let le = h best (0, omega arith, refl) in omega (arith, le)

pub upper-refused : Refuses (either (Some both_terms)) best_logged (bounds_of 1 0) NotBound
upper-refused = (
  problem (Some both_terms),
  best_state,
  opened_with,
  best-accepted,
  inl (refl, inl (both_terms, refl, inl (at_least_best, inl (omega arith, (pair false false 1, least_form, inl (propagated best_rup, inl ((best, (0, omega arith, refl)), inr (late, refl)))))))),
)
  where
    late : (g : Logged) × Contains (best ∷ []) g × (g.value ≤ℤ pos 0) → ⊥
    late (g, c, le) = let high = at_least_best g c in omega (arith, ints, high, le)
