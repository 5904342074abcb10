-- Every accepted statement preserves what is true of a state, and what a verdict means for the forms, it means for the instance
use Rattle.pb_normal.proofs.lemmas.{names.Appearing.named, rules.Scales.Holds-multiplied, rules.Scales.Holds-saturated}
use Rattle.pb_replay.proofs.Common.{ℕ, ◌≤ℤ◌, arith, Bool, List, pos, unsigned_abs, Option, ints, Holds-sum, Holds-divided, Holds-weakened, Form, Holds}
use Rattle.pb_replay.proofs.Common.{Constraint, LiteralAxiom, Product, Quotient, Saturation, Sum, Tree, Weakening, HoldAll, Live, ℤ, ◌++◌, ◌+ℤ◌, ◌-ℤ◌, ◌<◌, ◌∷◌}
use Rattle.pb_replay.proofs.Common.{◌≡◌, ◌⊎◌, [], All, append-nil, inl, inr, length, Side, None, refl, set, Some, cases_lt, All-cons, All-head, All-nil}
use Rattle.pb_replay.proofs.Common.{All-tail, Contains-append_left, Contains-push, Contains-push_cases, none-some, same_Some, distinct, total, true_at}
use Rattle.pb_replay.proofs.Common.{AreDistinct, with_names, assignment, IsSideOf, true_sum, IsStatementValue, IsWord, Divide, Stage, Closing, Complete}
use Rattle.pb_replay.proofs.Common.{Concluding, Formula, Steps, Statement, words, contains-none, Literal, Term, FirstIsSound, StatementsAreSound}
use Rattle.pb_replay.proofs.Common.{objective_with, verdict_of, Accounted, allowed, beaten, IsNamePrefix, IsProblem, IsSolution, IsSound, known, Problem}
use Rattle.pb_replay.proofs.Common.{by_name, Logged, numbered, place, State, value, Accepts, mentioned, ◌∙◌, ap, get_or, length-append, suc, sym, true, zero}
use Rattle.pb_replay.proofs.Common.{◌↔◌, Contains, Ok, get_or_append_left, get_or_default, get_or_from_slice_get, slice_get-get_or, names_split, number_in-get}
use Rattle.pb_replay.proofs.Common.{slice_get-number, SameAsForm-from, SameAsForms-from, SameSolutions-side, AreFormsOf, constraint_names, sides_in, with_sides}
use Rattle.pb_replay.proofs.Common.{has_name, HasNames, number_in, by_number, HoldsWritten, names_of, Instance, Bound, Finite, Infinite, Linear, MeaningsAgree}
use Rattle.pb_replay.proofs.Common.{ProblemsAreProper, SolutionsAreAccounted, VerdictsMean, Verdict, AccountedWritten, allowed_still, beaten_value, IsAtLeast}
use Rattle.pb_replay.proofs.Common.{IsAtMost, known_names, Means, MeansWritten, names_in, objective_of, Opened, Solves, written_value, first_state}
use Rattle.pb_replay.proofs.lemmas.conclusions.Concluded.{justified-means, objective-numbers}
use Rattle.pb_replay.proofs.lemmas.meaning.{Propagated.IsRup-holds, Ruled.rules-outcomes, Ruled.solved-from, Accepting.needed, Accepting.ok-same}
use Rattle.pb_replay.proofs.lemmas.meaning.Assigned.{IsNamePrefix-more, length-prefix, side-holds, value-over, Holds-agree, back, true_sum-agree, value-agree}
use Rattle.pb_replay.proofs.lemmas.rules.Completions.{IsTaken, Completed-taken, taken-known, clause-fails}
use Rattle.pb_replay.proofs.lemmas.rules.Live.{IsLive-live, Live-deleted, Live-loaded, HoldAll-added}
use Rattle.pb_replay.specs.contract.Rules.{HasForm, constraint, literal, sum, product, quotient, saturation, weakening, Deletes, none, one, IsSolvedBy, Rule}
use Rattle.pb_replay.specs.contract.Rules.{header, formula, pol, rup, soli, solx, delete, output, conclude, end}
use Rattle.pb_replay.specs.declared.verdict.Verdict.TheVariants.{NoClaim, Unsat, Sat, Bounds}
use Rattle.pb_sums.specs.declared.Relation.{Relation, TheVariants.AtLeast, TheVariants.Equal}

-- divisors are above 0
abbrev pub HasDivisors : Tree → Type 0
HasDivisors (Constraint id) = Unit {0}
HasDivisors (LiteralAxiom l) = Unit {0}
HasDivisors (Sum a b) = HasDivisors a × HasDivisors b
HasDivisors (Product a k) = HasDivisors a
HasDivisors (Quotient a k) = (pos 1 ≤ℤ k) × HasDivisors a
HasDivisors (Saturation a) = HasDivisors a
HasDivisors (Weakening a name) = HasDivisors a

pub HasForm-holds : (a : ℕ → Bool) (limit : ℕ) (names : List (List ℕ)) (live : List (Option Form)) (t : Tree) (r : Form) → HasDivisors t → HoldAll a (Live live) → HasForm limit names live t r → Holds a r
HasForm-holds a limit names live _ _ p h (constraint i f at) = h f (IsLive-live live i f at)
HasForm-holds a limit names live _ _ p h (literal l) = omega arith
HasForm-holds a limit names live _ _ p h (sum b c f g r x y is within) =
    Holds-sum a f g r is (HasForm-holds a limit names live b f p.0 h x) (HasForm-holds a limit names live c g p.1 h y)
HasForm-holds a limit names live _ _ p h (product b k f x within) = Holds-multiplied a (unsigned_abs k) f (HasForm-holds a limit names live b f p h x)
HasForm-holds a limit names live _ _ p h (quotient b k f x) =
    Holds-divided a (unsigned_abs k) f (omega (arith, ints, p.0)) (HasForm-holds a limit names live b f p.1 h x)
HasForm-holds a limit names live _ _ p h (saturation b f x) = Holds-saturated a f (HasForm-holds a limit names live b f p h x)
HasForm-holds a limit names live _ _ p h (weakening b name f x) = Holds-weakened a _ f (HasForm-holds a limit names live b f p h x)

pub first-sound : FirstIsSound
first-sound v p = grind (arith, contains-none, append-nil, v.names, p.distinct, none-some)

-- the divisors among the words of an expression are above 0
all_left : {X : Type 0} (P : X → Type 0) (xs ys : List X) → All P (xs ++ ys) → All P xs
all_left P [] ys h = All-nil P
all_left P (x ∷ xs) ys h = All-cons P x xs (All-head P x (xs ++ ys) h) (all_left P xs ys (All-tail P x (xs ++ ys) h))

all_right : {X : Type 0} (P : X → Type 0) (xs ys : List X) → All P (xs ++ ys) → All P ys
all_right P [] ys h = h
all_right P (x ∷ xs) ys h = all_right P xs ys (All-tail P x (xs ++ ys) h)

proper : (limit top : ℕ) (t : Tree) → All (IsWord limit top) (words t) → HasDivisors t
proper limit top (Constraint id) h = tt
proper limit top (LiteralAxiom l) h = tt
proper limit top (Sum a b) h =
    let rest = all_left (IsWord limit top) (words a ++ words b) _ h in
    (proper limit top a (all_left (IsWord limit top) (words a) (words b) rest), proper limit top b (all_right (IsWord limit top) (words a) (words b) rest))
proper limit top (Product a k) h = proper limit top a (all_left (IsWord limit top) (words a) _ h)
proper limit top (Quotient a k) h =
    let last = All-head (IsWord limit top) (Divide k) [] (all_right (IsWord limit top) (words a) _ h) in
    (last.0, proper limit top a (all_left (IsWord limit top) (words a) _ h))
proper limit top (Saturation a) h = proper limit top a (all_left (IsWord limit top) (words a) _ h)
proper limit top (Weakening a name) h = proper limit top a (all_left (IsWord limit top) (words a) _ h)

-- an assignment that is accounted for stays so while the logged solutions stay
stood : (v : Problem) (s t : State) (a : ℕ → Bool) → t.logged ≡ s.logged → (HoldAll a (Live s.live) → HoldAll a (Live t.live)) → Accounted v s a → Accounted v t a
stood v s t a e kept (known g c same) = known g (rw e c) same
stood v s t a e kept (beaten o has g c less) = beaten o has g (rw e c) less
stood v s t a e kept (allowed holds) = allowed (kept holds)

-- a step that changes only the live forms
live-sound : (v : Problem) (s : State) (live : List (Option Form)) (names : List (List ℕ)) (next : Stage) → IsSound v s → IsNamePrefix v.names names → AreDistinct names → ((a : ℕ → Bool) → IsSolution v a → HoldAll a (Live s.live) → HoldAll a (Live live)) → IsSound v (record { live = live; names = names; logged = s.logged; next = next; concluded = s.concluded })
live-sound v s live names next sound begins apart kept = record {
  stands = λ a solution. stood v s (record { live = live; names = names; logged = s.logged; next = next; concluded = s.concluded }) a refl (kept a solution) (sound.stands a solution);
  names = begins;
  distinct = apart;
  solutions = sound.solutions;
  values = sound.values;
  meant = sound.meant;
}

-- a step that logs a solution and adds a form; at each solution either the form holds or the logged one accounts for it
logged-sound : (v : Problem) (s : State) (r : Form) (g : Logged) (next : Stage) → IsSound v s → IsSolution v (assignment g.values) → g.value ≡ value v (assignment g.values) → ((a : ℕ → Bool) → IsSolution v a → HoldAll a (Live s.live) → total (true_at a) r.terms < r.degree → Accounted v (record { live = s.live ++ (Some r ∷ []); names = s.names; logged = s.logged ++ (g ∷ []); next = next; concluded = s.concluded }) a) → IsSound v (record { live = s.live ++ (Some r ∷ []); names = s.names; logged = s.logged ++ (g ∷ []); next = next; concluded = s.concluded })
logged-sound v s r g next sound solved value_is excluded =
    record {
      stands = λ a solution. stood a solution (sound.stands a solution);
      names = sound.names;
      distinct = sound.distinct;
      solutions = λ k c. elim (Contains-push_cases s.logged g k c) [ inl old ↦ sound.solutions k old | inr new ↦ rw (← new) solved ];
      values = λ k c. elim (Contains-push_cases s.logged g k c) [ inl old ↦ sound.values k old | inr new ↦ rw (← new) value_is ];
      meant = sound.meant;
    }
  where
    stood : (a : ℕ → Bool) → IsSolution v a → Accounted v s a → Accounted v (record { live = s.live ++ (Some r ∷ []); names = s.names; logged = s.logged ++ (g ∷ []); next = next; concluded = s.concluded }) a
    stood a solution (known k c same) = known k (Contains-append_left s.logged (g ∷ []) k c) same
    stood a solution (beaten o e k c less) = beaten o e k (Contains-append_left s.logged (g ∷ []) k c) less
    stood a solution (allowed holds) =
        elim (cases_lt (total (true_at a) r.terms) r.degree) [
          | inl low ↦ excluded a solution holds low
          | inr here ↦ allowed (HoldAll-added a s.live r holds here)
        ]

pub Deletes-live : (live : List (Option Form)) (ids : List ℤ) (rest : List (Option Form)) → Deletes live ids rest → (f : Form) → Live rest f → Live live f
Deletes-live live _ _ none f c = c
Deletes-live live _ rest (one id ids g at d) f c =
    Live-deleted live (place (length live) id) f (Deletes-live (set live (place (length live) id) None) ids rest d f c)

solved-taken : (v : Problem) (s : State) (given : List Literal) (g : Logged) → IsSolvedBy v s.live (length s.names) (numbered s.names given) g → IsTaken v (Live s.live) (length s.names) (numbered s.names given) g
solved-taken v s given g h = Completed-taken v (Live s.live) (length s.names) (numbered s.names given) g (solved-from v s.live (length s.names) (numbered s.names given) g h)

-- if the constraint that requires a smaller value fails, the value is no smaller
no_smaller : (v : Problem) (s : State) (o : List Term) (a : ℕ → Bool) (r : Form) (w : ℤ) → IsProblem v → IsSound v s → v.objective ≡ Some o → IsSideOf s.names Side.AtMost (objective_with o (w -ℤ pos 1)) r → total (true_at a) r.terms < r.degree → w ≤ℤ value v a
no_smaller v s o a r w p sound e normal low =
    let over = value-over v s.names o a p sound.names e in
    elim (cases_le w (value v a)) [
      | inl le ↦ le
      | inr more ↦
          let demand : true_sum (by_name s.names a) o ≤ℤ (w -ℤ pos 1) = rw over (omega (arith, ints, more)) in
          absurd (omega (arith, (side-holds s.names Side.AtMost (objective_with o (w -ℤ pos 1)) r a sound.distinct (objective-numbers v s o p sound e) normal).1 demand))
    ]
  where
    cases_le : (x y : ℤ) → (x ≤ℤ y) ⊎ ((y +ℤ pos 1) ≤ℤ x)
    cases_le x y = grind (arith, ints)

rule-sound : (limit top : ℕ) (v : Problem) (s t : State) (st : Statement) → IsProblem v → IsStatementValue limit top st → IsSound v s → Rule limit top v s st t → IsSound v t
rule-sound limit top v s _ _ p q sound header = live-sound v s s.live s.names Formula sound sound.names sound.distinct (λ a solution holds. holds)
rule-sound limit top v s _ _ p q sound (formula count is few) =
    live-sound v s _ s.names Steps sound sound.names sound.distinct (λ a solution holds f c. solution f (Live-loaded v.loaded f c))
rule-sound limit top v s _ _ p q sound (pol tree r is room) =
    live-sound v s _ s.names s.next sound sound.names sound.distinct
    (λ a solution holds. HoldAll-added a s.live r holds (HasForm-holds a limit s.names s.live tree r (proper limit top tree q.1) holds is))
rule-sound limit top v s _ _ p q sound (rup linear r side is room) =
    live-sound v s _ s.names s.next sound sound.names sound.distinct (λ a solution holds. HoldAll-added a s.live r holds (IsRup-holds (Live s.live) a r holds is))
rule-sound limit top v s _ _ p q sound (solx given g r solved is room) =
    let taken = solved-taken v s given g solved in
    logged-sound v s r g s.next sound taken.solution taken.value_is (λ a solution holds low.
    known g (Contains-push s.logged g) (λ k lt. taken-known v (Live s.live) (length s.names) (numbered s.names given) g a taken holds (clause-fails (numbered s.names given) r a is low) k (omega (arith, lt, length-prefix v.names s.names sound.names))))
rule-sound limit top v s _ _ p q sound (soli given o g r has solved side room) =
    let taken = solved-taken v s given g solved in
    logged-sound v s r g s.next sound taken.solution taken.value_is
    (λ a solution holds low. beaten o has g (Contains-push s.logged g) (no_smaller v s o a r g.value p sound has side.side_of low))
rule-sound limit top v s _ _ p q sound (delete ids live is) =
    live-sound v s live s.names s.next sound sound.names sound.distinct (λ a solution holds f c. holds f (Deletes-live s.live ids live is f c))
rule-sound limit top v s _ _ p q sound output = live-sound v s s.live s.names Concluding sound sound.names sound.distinct (λ a solution holds. holds)
rule-sound limit top v s _ _ p q sound (conclude c is) = record {
  stands = λ a solution. stood v s (record s { next = Closing; concluded = Some (verdict_of c) }) a refl (λ holds. holds) (sound.stands a solution);
  names = sound.names;
  distinct = sound.distinct;
  solutions = sound.solutions;
  values = sound.values;
  meant = λ w e. rw (same_Some _ _ e) at (justified-means limit v s c p sound is);
}
rule-sound limit top v s _ _ p q sound end = live-sound v s s.live s.names Complete sound sound.names sound.distinct (λ a solution holds. holds)

pub statements-sound : StatementsAreSound
statements-sound limit top v s t st p q sound h =
    rule-sound limit top v (record s { names = with_names s.names (mentioned st) }) t st p q more ((rules-outcomes limit top v s t st).0 h).rule
  where
    more : IsSound v (record s { names = with_names s.names (mentioned st) })
    more = live-sound v s s.live (with_names s.names (mentioned st)) s.next sound (IsNamePrefix-more v.names s.names (mentioned st) sound.names) (distinct s.names (mentioned st) sound.distinct) (λ a solution holds. holds)

pub run-sound : (limit top : ℕ) (v : Problem) (s t : State) (sts : List Statement) → IsProblem v → All (IsStatementValue limit top) sts → IsSound v s → Accepts limit top v s sts t → IsSound v t
run-sound limit top v s t [] p q sound h = rw (← h) sound
run-sound limit top v s t (st ∷ sts) p q sound h =
    run-sound limit top v h.0 t sts p (All-tail (IsStatementValue limit top) st sts q) (statements-sound limit top v s h.0 st p (All-head (IsStatementValue limit top) st sts q) sound h.1) h.2

-- for each member of a longer list
module _ {X : Type 0} (P : X → Type 0) where
  all_cons : (x : X) (xs : List X) → P x → ((y : X) → Contains xs y → P y) → (y : X) → Contains (x ∷ xs) y → P y
  all_cons x xs first rest y (zero, lt, is) = let e : x ≡ y = is in rw (← e) first
  all_cons x xs first rest y (suc k, lt, is) = rest y (k, omega (arith, lt), is)

  all_first : (x : X) (xs : List X) → ((y : X) → Contains (x ∷ xs) y → P y) → P x
  all_first x xs h = h x (0, omega arith, refl)

  all_rest : (x : X) (xs : List X) → ((y : X) → Contains (x ∷ xs) y → P y) → (y : X) → Contains xs y → P y
  all_rest x xs h y (k, lt, is) = h y (suc k, omega (arith, lt), is)

-- the forms of one constraint, and then the others
one_more : (names : List (List ℕ)) (a : List ℕ → Bool) (relation : Relation) (c : Linear) (sides : List (Side × Linear)) (forms : List Form) (P : Type 0) → c.relation ≡ relation → AreDistinct names
    → HasNames names (names_of c.terms) → ((fs : List Form) → AreFormsOf names sides fs → P ↔ HoldAll (by_number names a) (Contains fs)) → AreFormsOf names (with_sides relation c ++ sides) forms
    → (HoldsWritten a c × P) ↔ HoldAll (by_number names a) (Contains forms)
one_more names a AtLeast c sides [] P e d h rest f = absurd f
one_more names a AtLeast c sides (r ∷ forms) P e d h rest f =
    let H = Holds (by_number names a) in let same = SameAsForm-from names c r e (SameSolutions-side names Side.AtLeast c r d h f.0) a in
    let others = rest forms f.1 in
    (λ w. all_cons H r forms (same.0 w.0) (others.0 w.1), λ w. (same.1 (all_first H r forms w), others.1 (all_rest H r forms w)))
one_more names a Equal c sides [] P e d h rest f = absurd f
one_more names a Equal c sides (r ∷ []) P e d h rest f = absurd f.1
one_more names a Equal c sides (r ∷ s ∷ forms) P e d h rest f =
    let H = Holds (by_number names a) in
    let same = SameAsForms-from names c r s e (SameSolutions-side names Side.AtLeast c r d h f.0) (SameSolutions-side names Side.AtMost c s d h f.1.0) a in
    let others = rest forms f.1.1 in (
      λ w. let both = same.0 w.0 in all_cons H r (s ∷ forms) both.0 (all_cons H s forms both.1 (others.0 w.1)),
      λ w. let later = all_rest H r (s ∷ forms) w in (same.1 (all_first H r (s ∷ forms) w, all_first H s forms later), others.1 (all_rest H s forms later)),
    )

pub all_same : (names : List (List ℕ)) (a : List ℕ → Bool) (cs : List Linear) (forms : List Form) → AreDistinct names → HasNames names (constraint_names cs) → AreFormsOf names (sides_in cs) forms
    → ((c : Linear) → Contains cs c → HoldsWritten a c) ↔ HoldAll (by_number names a) (Contains forms)
all_same names a [] [] d h f = (λ w r k. absurd (contains-none [] r refl k), λ w c k. absurd (contains-none [] c refl k))
all_same names a [] (r ∷ forms) d h f = absurd f
all_same names a (c ∷ cs) forms d h f =
    let W = HoldsWritten a in let parts = names_split names (names_of c.terms) (constraint_names cs) h in
    let both = one_more names a c.relation c (sides_in cs) forms ((x : Linear) → Contains cs x → W x) refl d parts.0 (λ fs g. all_same names a cs fs d parts.1 g) f in (
      λ w. both.0 (all_first W c cs w, all_rest W c cs w),
      λ w. let back = both.1 w in all_cons W c cs back.0 back.1,
    )

-- a form depends only on its names
are_named : (names : List (List ℕ)) (sides : List (Side × Linear)) (forms : List Form) → AreFormsOf names sides forms → (r : Form) → Contains forms r → All (λ t. t.variable < length names) r.terms
are_named names [] [] f r c = absurd (contains-none [] r refl c)
are_named names [] (g ∷ forms) f r c = absurd f
are_named names (s ∷ sides) [] f r c = absurd f
are_named names (s ∷ sides) (g ∷ forms) f r c =
    all_cons (λ (k : Form). All (λ t. t.variable < length names) k.terms) g forms f.0.named (are_named names sides forms f.1) r c

-- what an instance opens as
pub record IsOf (i : Instance) (v : Problem) : Type 0 where
  pub names : v.names ≡ names_in i
  pub objective : v.objective ≡ i.objective
  pub forms : AreFormsOf v.names (sides_in i.constraints) v.loaded
  pub distinct : AreDistinct v.names
  pub in_objective : HasNames v.names (names_of (objective_of v.objective))
  pub in_constraints : HasNames v.names (constraint_names i.constraints)

pub opened-of : (limit : ℕ) (i : Instance) (v : Problem) → Opened limit i (Ok v) → IsOf i v
opened-of limit i v h =
    let rest = (needed h).1 in let forms = rest.0 in let ns = names_of (objective_of i.objective) in
    let cs = constraint_names i.constraints in let has = names_split (names_in i) ns cs (named [] (ns ++ cs)) in
    let whole : IsOf i (record { loaded = forms; objective = i.objective; names = names_in i }) = record {
      names = refl;
      objective = refl;
      forms = rest.1;
      distinct = distinct [] (ns ++ cs) tt;
      in_objective = has.0;
      in_constraints = has.1;
    } in
    rw (ok-same rest.2) whole

proper-of : (i : Instance) (v : Problem) → IsOf i v → IsProblem v
proper-of i v o = record { distinct = o.distinct; named = o.in_objective }

pub loaded-inside : (limit : ℕ) (i : Instance) (v : Problem) → Opened limit i (Ok v) → (r : Form) → Contains v.loaded r → All (λ t. t.variable < length v.names) r.terms
loaded-inside limit i v h r c = are_named v.names (sides_in i.constraints) v.loaded (opened-of limit i v h).forms r c

pub problems-proper : ProblemsAreProper
problems-proper limit i v h = proper-of i v (opened-of limit i v h)

-- from numbers to names, and back
module _ (i : Instance) (v : Problem) (o : IsOf i v) where
  to_forms : (a : List ℕ → Bool) → Solves i a → IsSolution v (by_number v.names a)
  to_forms a s = (all_same v.names a i.constraints v.loaded o.distinct o.in_constraints o.forms).0 s

  to_written : (a : ℕ → Bool) → IsSolution v a → Solves i (by_name v.names a)
  to_written a s =
      (all_same v.names (by_name v.names a) i.constraints v.loaded o.distinct o.in_constraints o.forms).1
      (λ r c. Holds-agree a (by_number v.names (by_name v.names a)) (length v.names) r (are_named v.names (sides_in i.constraints) v.loaded o.forms r c) (λ x lt. sym (back v.names a x o.distinct lt)) (s r c))

  there : (a : List ℕ → Bool) (q : List ℕ) → has_name v.names q ≡ true → by_name v.names (by_number v.names a) q ≡ a q
  there a q h = ap a (get_or_from_slice_get v.names (number_in v.names q) q [] (slice_get-number v.names q h))

  value_there : (a : List ℕ → Bool) → value v (by_number v.names a) ≡ written_value i a
  value_there a =
      true_sum-agree (by_name v.names (by_number v.names a)) a v.names (objective_of v.objective) o.in_objective (there a)
      ∙ ap (λ x. true_sum a (objective_of x)) o.objective

  value_back : (a : ℕ → Bool) → written_value i (by_name v.names a) ≡ value v a
  value_back a = ap (λ x. true_sum (by_name v.names a) (objective_of x)) (sym o.objective)

  at_least : (b : Bound) → IsAtLeast (IsSolution v) (value v) b → IsAtLeast (Solves i) (written_value i) b
  at_least Infinite h = λ a s. h (by_number v.names a) (to_forms a s)
  at_least (Finite b) h = λ a s. rw (value_there a) at (h (by_number v.names a) (to_forms a s))

  at_most : (b : Bound) → IsAtMost (IsSolution v) (value v) b → IsAtMost (Solves i) (written_value i) b
  at_most Infinite h = tt
  at_most (Finite b) h = (by_name v.names h.0, to_written h.0 h.1, rw (value_back h.0) h.2)

  agree : (w : Verdict) → Means v w → MeansWritten i w
  agree NoClaim h = tt
  agree Unsat h = λ a s. h (by_number v.names a) (to_forms a s)
  agree Sat h = (by_name v.names h.0, to_written h.0 h.1)
  agree (Bounds lower upper) h = (at_least lower h.0, at_most upper h.1)

  accounted : (s : State) → IsSound v s → (a : List ℕ → Bool) → Solves i a → AccountedWritten i v.names s a
  accounted s sound a solves = by_case (sound.stands (by_number s.names a) solution)
    where
      more : List (List ℕ)
      more = (sound.names).0

      begins : s.names ≡ v.names ++ more
      begins = (sound.names).1

      on_prefix : (x : ℕ) → x < length v.names → by_number s.names a x ≡ by_number v.names a x
      on_prefix x lt = rw begins (ap a (get_or_append_left v.names more [] x lt))

      solution : IsSolution v (by_number s.names a)
      solution r c = Holds-agree (by_number v.names a) (by_number s.names a) (length v.names) r (are_named v.names (sides_in i.constraints) v.loaded o.forms r c) (λ x lt. sym (on_prefix x lt)) (to_forms a solves r c)

      by_case : Accounted v s (by_number s.names a) → AccountedWritten i v.names s a
      by_case (known g c same) = known_names g c known_name
        where
          known_name : (q : List ℕ) → Contains v.names q → a q ≡ by_name s.names (assignment g.values) q
          known_name q (k, lt, is) =
              let here : get_or s.names k [] ≡ q = rw begins (get_or_append_left v.names more [] k lt ∙ get_or_default v.names k [] q lt ∙ is) in
              let inside : k < length s.names = omega (arith, lt, ap length begins, length-append v.names more) in
              let number : number_in s.names q ≡ k = number_in-get s.names k q sound.distinct (slice_get-get_or s.names k [] inside ∙ ap (λ n. let m : Option (List ℕ) = Some n in m) here) in
              ap a (sym here) ∙ same k lt ∙ ap (assignment g.values) (sym number)
      by_case (beaten terms e g c le) =
          beaten_value terms (sym o.objective ∙ e) g c (rw (value-agree v (by_number s.names a) (by_number v.names a) (proper-of i v o) on_prefix ∙ value_there a) at le)
      by_case (allowed holds) = allowed_still holds

pub meanings-agree : MeaningsAgree
meanings-agree limit i v w h = agree i v (opened-of limit i v h) w

pub verdicts-mean : VerdictsMean
verdicts-mean limit top i v sts t w h p accepted concluded =
    let o = opened-of limit i v h in let proper = proper-of i v o in
    agree i v o w ((run-sound limit top v (first_state v) t sts proper p (first-sound v proper) accepted).meant w concluded)

pub solutions-accounted : SolutionsAreAccounted
solutions-accounted limit i v s h = accounted i v (opened-of limit i v h) s
