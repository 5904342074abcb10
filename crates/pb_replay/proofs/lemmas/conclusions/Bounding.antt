-- A conclusion continues after its tests
use Rattle.pb_replay.proofs.Common.{ℕ, ℤ, ◌∙◌, ◌≡◌, ◌≤ℤ◌, [], ap, arith, Err, inl, inr, List, None, refl, Some, subst, sym, Contains, Ok, Option, Verdict, Side}
use Rattle.pb_replay.proofs.Common.{option_map, Result, ints, NumberedLiteral, Form, Bound, Finite, Infinite, Bounds, Closing, Conclude, contains-none, Literal}
use Rattle.pb_replay.proofs.Common.{Term, ok_or_err, largest, GoesAt, HasNamed, IsBest, IsProper, Keeps, problem_of, state_of, Fault, NoSuchId, NotBound}
use Rattle.pb_replay.proofs.Common.{Running, Both, HasObjective, IsBelow, IsNamed, IsReached, Lower, objective_at_least, ObjectiveShown, Reached, Refutes}
use Rattle.pb_replay.proofs.Common.{ShownAs, ShownReaches, Upper, upper_of, Answer, gives, contradiction, IsShownBy, lower_bound, named, none_left, sum}
use Rattle.pb_replay.proofs.Common.{upper_bound, Problem, IsLive, Logged, numbered, State}
use Rattle.pb_replay.proofs.lemmas.meaning.Relating.{Passes, left-pass, lower-pass, upper-pass}
use Rattle.pb_replay.proofs.lemmas.rules.Steps.{same-state, below, form-of, same_problem}

-- what has one result also has the other, if what follows does
module _ {A : Type 0} (s : Result Unit Fault) (r : Result A Fault) (same : (e : Fault) → s ≡ Err e → r ≡ Err e) where
  abbrev Moves : Answer Unit → Answer A → Type 0
  Moves m n = m s → n r

  moves-pass : Passes (Unit {0}) Unit A Moves
  moves-pass = record {
    by_need = λ P Q e m n o f back g. elim [ inl t ↦ inl (f t.0, g t.1) | inr t ↦ inr (λ q. t.0 (back tt q), same e t.1) ];
    by_found = λ X P e m n o one g. elim [ inl t ↦ inl (t.0, t.1, g t.0 t.2) | inr t ↦ inr (t.0, same e t.1) ];
    by_some = λ X P m n one g t. (t.0, t.1, g t.0 t.2);
  }

  pub left-moves : (state : State) (id : Option ℤ) (next : Answer A) → (s ≡ Ok tt → next r) → none_left state id (gives (tt {0})) s → none_left state id next r
  left-moves state id next = left-pass (Unit {0}) 0 0 (omega arith) (λ u. omega arith) Unit A Moves moves-pass state id (gives tt) next

  lower-moves : (limit : ℕ) (state : State) (o : List Term) (b : Bound) (id : Option ℤ) (next : Answer A) → (s ≡ Ok tt → next r)
      → lower_bound limit state o b id (gives (tt {0})) s → lower_bound limit state o b id next r
  lower-moves limit state o b id next = lower-pass (Unit {0}) limit limit (omega arith) (λ u. omega arith) Unit A Moves moves-pass state o b id (gives tt) next

  upper-moves : (v : Problem) (state : State) (b : Bound) (written : Option (List Literal)) (next : Answer A) → (s ≡ Ok tt → next r)
      → upper_of v state.logged b (option_map (numbered state.names) written) s → upper_bound v state b written next r
  upper-moves v state Infinite written next go h = go h
  upper-moves v state (Finite u) None next go h =
      upper-pass (Unit {0}) 0 0 (omega arith) (λ u. omega arith) Unit A Moves moves-pass v state (Finite u) None (gives tt) next go h
  upper-moves v state (Finite u) (Some ls) next go h =
      upper-pass (Unit {0}) 0 0 (omega arith) (λ u. omega arith) Unit A Moves moves-pass v state (Finite u) (Some ls) (gives tt) next go h

-- bounds by the best value
pub below-to : (logged : List Logged) (best : Option ℤ) (b : ℤ) → IsBest logged best → IsBelow best b → (g : Logged) → Contains logged g → b ≤ℤ g.value
below-to logged None b h k g c = absurd (contains-none logged g h c)
below-to logged (Some z) b h k g c = (below logged z b h).0 k g c

pub below-back : (logged : List Logged) (best : Option ℤ) (b : ℤ) → IsBest logged best → ((g : Logged) → Contains logged g → b ≤ℤ g.value) → IsBelow best b
below-back logged best b h all = grind (arith, below)

pub reached-to : (logged : List Logged) (best : Option ℤ) (u : ℤ) (r : Result Unit Fault) → IsBest logged best → IsReached best u r → Reached logged u r
reached-to logged None u r h k = inr (λ some. contains-none logged some.0 h some.1, k)
reached-to logged (Some z) u r h (inl (le, k)) = let one = h.0 in inl ((one.0, one.1), inl ((one.0, one.1, omega (arith, ints, one.2, le)), k))
reached-to logged (Some z) u r h (inr (late, k)) = let one = h.0 in inl ((one.0, one.1), inr (λ some. late (omega (arith, ints, h.1 some.0 some.1, some.2)), k))

-- the id names a form, or there is no id
pub named-some : (live : List (Option Form)) (id : Option ℤ) (i : ℤ) (f : Form) → id ≡ Some i → IsLive live i f → (x : Option Form) × IsNamed live id x
named-some live id i f e h = (Some f, subst (λ (o : Option ℤ). IsNamed live o (Some f)) (sym e) (f, h, refl))

named-go : {A : Type 0} (live : List (Option Form)) (id : Option ℤ) (f : Option Form) (next : Option Form → Answer A) (r : Result A Fault) → IsNamed live id f → next f r → named live id next r
named-go live None f next r is h = subst (λ (o : Option Form). next o r) is h
named-go live (Some i) f next r (g, at, is) h = inl (g, at, subst (λ (o : Option Form). next o r) is h)

named-missing : {A : Type 0} (live : List (Option Form)) (id : Option ℤ) (i : ℤ) (next : Option Form → Answer A) → id ≡ Some i → ((f : Form) → IsLive live i f → ⊥) → named live id next (Err (NoSuchId i))
named-missing live id i next e none = subst (λ (o : Option ℤ). named live o next (Err (NoSuchId i))) (sym e) (inr (none, refl))

pub refuted-shown : (live : List (Option Form)) (f : Option Form) (goal : Form) → Refutes f goal → IsShownBy live f goal
refuted-shown live f goal (g, e, inl h) = contradiction g e h
refuted-shown live f goal (g, e, inr h) = sum g e h

module _ (r : Running) (b : ℤ) where
  pub objective-ok : (f : Option Form) (goal : Form) (result : Result Unit Fault) → HasObjective (largest r.limits) r.names (problem_of r).objective Side.AtLeast b (Ok goal) → ShownAs r.constraints.forms f goal result → ObjectiveShown r f b result
  objective-ok f goal (Ok u) made shown = λ o has. let k = form-of (largest r.limits) r.names (problem_of r).objective Side.AtLeast b goal made o has in inl (k.0, (goal, k.1, inl (shown, refl)))
  objective-ok f goal (Err e) made (inl memory) = inl memory
  objective-ok f goal (Err e) made (inr (is, none)) = inr (λ o has. let k = form-of (largest r.limits) r.names (problem_of r).objective Side.AtLeast b goal made o has in inl (k.0, (goal, k.1, inr (none, let to : Fault → Result Unit Fault = λ d. Err d in ap to is))))

  module _ (id : Option ℤ) where
    pub lower-late : (IsBelow r.best b → ⊥) → Lower r (Finite b) id (Err NotBound)
    lower-late late = inr (λ logged o best has. inr (λ all. late (below-back logged r.best b best all), refl))

    pub lower-missing : IsBelow r.best b → (e : Fault) → (i : ℤ) × (id ≡ Some i) × (e ≡ NoSuchId i) × ((f : Form) → IsLive r.constraints.forms i f → ⊥) → Lower r (Finite b) id (Err e)
    lower-missing low e (i, is, bad, none) = inr (λ logged o best has.
        inl (below-to logged r.best b best low, subst (λ (d : Fault). named r.constraints.forms id (λ f. objective_at_least r f b o) (Err d)) (sym bad) (named-missing r.constraints.forms id i (λ f. objective_at_least r f b o) is none)))

    pub lower-found : IsBelow r.best b → (f : Option Form) → IsNamed r.constraints.forms id f → (result : Result Unit Fault) → ObjectiveShown r f b result → Lower r (Finite b) id result
    lower-found low f is (Ok u) h = λ logged o best has. inl (below-to logged r.best b best low, named-go r.constraints.forms id f (λ g. objective_at_least r g b o) (Ok tt) is (h o has))
    lower-found low f is (Err e) (inl memory) = inl memory
    lower-found low f is (Err e) (inr h) = inr (λ logged o best has. inl (below-to logged r.best b best low, named-go r.constraints.forms id f (λ g. objective_at_least r g b o) (Err e) is (h o has)))

pub lower-infinite : (r : Running) (id : Option ℤ) (result : Result Unit Fault) → ((logged : List Logged) → IsBest logged r.best → none_left (state_of r logged) id (gives (tt {0})) result) → Lower r Infinite id result
lower-infinite r id (Ok u) h = λ logged o best has. h logged best
lower-infinite r id (Err e) h = inr (λ logged o best has. h logged best)

-- both bounds
module _ (old m : Running) (lower : Bound) (id : Option ℤ) (upper : Bound) (given : Option (List NumberedLiteral)) where
  pub both-ok : HasNamed [] old m → IsProper old → Keeps old m → Lower old lower id (Ok tt) → (result : Result Unit Fault) → Upper m upper given result → Both old lower id upper given result
  both-ok named proper kept low (Ok u) up = λ logged o best has.
      (low logged o best has, subst (λ (v : Problem). upper_of v logged upper given (Ok tt)) (same_problem old m proper kept) (up logged (subst (λ (x : Option ℤ). IsBest logged x) (sym named.best) best)))
  both-ok named proper kept low (Err e) (inl memory) = inl memory
  both-ok named proper kept low (Err e) (inr up) = inr (λ logged o best has.
      inr (low logged o best has, subst (λ (v : Problem). upper_of v logged upper given (Err e)) (same_problem old m proper kept) (up logged (subst (λ (x : Option ℤ). IsBest logged x) (sym named.best) best))))

module _ (old m new : Running) (lower : Bound) (id : Option ℤ) (upper : Bound) (given : Option (List NumberedLiteral)) (written : Option (List Literal)) (numbers : given ≡ option_map (numbered old.names) written) (o : List Term) (has : (problem_of old).objective ≡ Some o) where
  abbrev last : List Logged → Answer State
  last logged = gives (record (state_of old logged) { next = Closing; concluded = Some (Verdict.Bounds lower upper) })

  moved : (logged : List Logged) (s : Result Unit Fault) (r : Result State Fault) → ((e : Fault) → s ≡ Err e → r ≡ Err e) → (s ≡ Ok tt → last logged r)
      → lower_bound (largest old.limits) (state_of old logged) o lower id (gives (tt {0})) (Ok tt) × upper_of (problem_of old) logged upper given s
      → lower_bound (largest old.limits) (state_of old logged) o lower id (upper_bound (problem_of old) (state_of old logged) upper written (last logged)) r
  moved logged s r same go k =
      let up = subst (λ (y : Option (List NumberedLiteral)). upper_of (problem_of old) logged upper y s) numbers k.1 in
      let after = upper-moves s r same (problem_of old) (state_of old logged) upper written (last logged) go up in
      lower-moves (Ok tt) r (λ e is. ok_or_err is) (largest old.limits) (state_of old logged) o lower id (upper_bound (problem_of old) (state_of old logged) upper written (last logged)) (λ is. after) k.0

  pub bounds-ok : HasNamed [] old m → new.constraints.forms ≡ m.constraints.forms → new.names ≡ m.names → new.best ≡ m.best → new.next ≡ Closing → new.concluded ≡ Some (Verdict.Bounds lower upper) → Both old lower id upper given (Ok tt) → GoesAt old (Conclude (Bounds lower id upper written)) (Ok tt) new
  bounds-ok named f n b x d both = λ logged best.
      let done = let to : State → Result State Fault = λ s. Ok s in ap to (same-state {logged = logged} (f ∙ named.forms) (n ∙ named.names) x d) in
      (logged, subst (λ (y : Option ℤ). IsBest logged y) (sym (b ∙ named.best)) best, inl (o, has, moved logged (Ok tt) (Ok (state_of new logged)) (λ e is. ok_or_err is) (λ is. done) (both logged o best has)))

  pub bounds-err : (e : Fault) → Both old lower id upper given (Err e) → GoesAt old (Conclude (Bounds lower id upper written)) (Err e) new
  bounds-err e (inl memory) = inl memory
  bounds-err e (inr both) = inr (λ logged best.
      inl (
        o,
        has,
        elim (both logged o best has) [
          | inl low ↦ lower-moves (Err e) (Err e) (λ d is. cc) (largest old.limits) (state_of old logged) o lower id (upper_bound (problem_of old) (state_of old logged) upper written (last logged)) (λ is. ok_or_err (sym is)) low
          | inr k ↦ moved logged (Err e) (Err e) (λ d is. cc) (λ is. ok_or_err (sym is)) k
        ],
      ))

pub upper-reached : (r : Running) (u : ℤ) (result : Result Unit Fault) → IsReached r.best u result → Upper r (Finite u) None result
upper-reached r u (Ok x) h = λ logged best. reached-to logged r.best u (Ok tt) best h
upper-reached r u (Err e) h = inr (λ logged best. reached-to logged r.best u (Err e) best h)

pub upper-shown : (r : Running) (given : List NumberedLiteral) (u : ℤ) (result : Result Unit Fault) → ShownReaches (problem_of r) given u result → Upper r (Finite u) (Some given) result
upper-shown r given u (Ok x) h = λ logged best. h
upper-shown r given u (Err e) (inl memory) = inl memory
upper-shown r given u (Err e) (inr h) = inr (λ logged best. h)
