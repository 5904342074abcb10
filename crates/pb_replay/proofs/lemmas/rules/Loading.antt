-- The forms of an instance, made as its statements come. Offered to other crates.
use Rattle.{pb_normal.proofs.lemmas.names.Loaded.are_named, pb_normal.proofs.lemmas.names.Loaded.forms_more, pb_normal.proofs.lemmas.names.Loaded.forms_then}
use Rattle.pb_opb.specs.declared.OpbEvent.{OpbEvent, TheVariants.Comment, TheVariants.Constraint, TheVariants.Header, TheVariants.Objective}
use Rattle.pb_opb.specs.meaning.Values.{constraints_in, last_or, objectives_in}
use Rattle.pb_replay.proofs.Common.{ℕ, ◌+◌, ◌++◌, ◌<◌, ◌∙◌, ◌∷◌, ◌≡◌, ◌≤◌, ◌⊎◌, [], ap, append-nil, arith, Contains, Contains-append_left, Contains-push, Contains-push_cases}
use Rattle.pb_replay.proofs.Common.{distinct, Err, Fault, Fits, IfOk, FitsAll, Form, HasNames, HasNames-append, in_turn, inl, inr, Instance, Linear, List, IfOk, Memory}
use Rattle.pb_replay.proofs.Common.{None, objective_of, Ok, Opened, Option, Overflow, prefix, Problem, problem_of, refl, Result, Running, Side, sides_in, Some, subst}
use Rattle.pb_replay.proofs.Common.{◌↔◌, cases_lt, NormalFault, unsigned_abs, sym, Term, with_names, with_sides, AreDistinct, AreFormsOf, constraint_names, largest, magnitude, names_in, names_of}
use Rattle.pb_replay.specs.{contract.Faults.fault_of, contract.Loading.NamesInOrder, contract.Loading.names_at, contract.Loading.names_on, contract.ReplayModel.IsFirst, contract.ReplayModel.IsLoaded}
use Rattle.pb_replay.specs.{declared.loading.forms.FormsSoFar.FormsSoFar, engine.Loading.AllFit, engine.Loading.AreMade, engine.Loading.IsStored, engine.Loading.Made, engine.Loading.MadeAs}
use Rattle.std.proofs.lemmas.Grind.{flat_map-append}

-- ---- statements, and one more

pub last_more : {A : Type 0} (x y : A) (xs : List A) → last_or x (xs ++ y ∷ []) ≡ y
last_more x y [] = refl
last_more x y (z ∷ xs) = last_more z y xs

pub objectives_more : (events : List OpbEvent) (e : OpbEvent) → objectives_in (events ++ e ∷ []) ≡ objectives_in events ++ objectives_in (e ∷ [])
objectives_more [] e = refl
objectives_more (d ∷ events) e = grind (arith, objectives_more events e)

pub constraints_more : (events : List OpbEvent) (e : OpbEvent) → constraints_in (events ++ e ∷ []) ≡ constraints_in events ++ constraints_in (e ∷ [])
constraints_more [] e = refl
constraints_more (d ∷ events) e = grind (arith, constraints_more events e)

pub names_more : (events : List OpbEvent) (e : OpbEvent) → names_on (events ++ e ∷ []) ≡ names_on events ++ names_at e
names_more events e = flat_map-append names_at events (e ∷ []) ∙ ap (λ (ns : List (List ℕ)). names_on events ++ ns) (append-nil (names_at e))

pub has_both : (names xs ys : List (List ℕ)) → HasNames names xs → HasNames names ys → HasNames names (xs ++ ys)
has_both names [] ys h k = k
has_both names (x ∷ xs) ys h k = (h.0, has_both names xs ys h.1 k)

-- ---- which constraints fit, with one more

module _ (limit : ℕ) (cs : List Linear) (c : Linear) where
  pub fit-more : AllFit limit cs → Fits limit c → AllFit limit (cs ++ c ∷ [])
  fit-more all fits x k = by_place (Contains-push_cases cs c x k)
    where
      by_place : Contains cs x ⊎ (c ≡ x) → Fits limit x
      by_place (inl i) = all x i
      by_place (inr e) = subst (Fits limit) e fits

  pub fit-before : AllFit limit (cs ++ c ∷ []) → AllFit limit cs
  fit-before all x k = all x (Contains-append_left cs (c ∷ []) x k)

  pub fit-last : AllFit limit (cs ++ c ∷ []) → Fits limit c
  fit-last all = all c (Contains-push cs c)

-- what was made, if all could be
module _ (seen : List (List ℕ)) (cs : List Linear) (f : FormsSoFar) (is : f.made ≡ Ok tt) where
  pub made-ok : Made seen cs f → AreMade seen cs f
  made-ok made = subst (λ (m : Result Unit Fault). MadeAs m seen cs f) is made

  pub ok-made : AreMade seen cs f → Made seen cs f
  ok-made made = subst (λ (m : Result Unit Fault). MadeAs m seen cs f) (sym is) made

-- one more constraint, where the forms of others could not be made
pub unmade-more : (r : Result Unit Fault) (seen more : List (List ℕ)) (cs : List Linear) (c : Linear) (f : FormsSoFar) → (r ≡ Ok tt → ⊥) → MadeAs r seen cs f → Fits (largest f.limits) c → MadeAs r more (cs ++ c ∷ []) f
unmade-more (Ok u) seen more cs c f not made fits = absurd (not refl)
unmade-more (Err Memory) seen more cs c f not made fits = fit-more (largest f.limits) cs c made fits
unmade-more (Err Overflow) seen more cs c f not made fits = λ all. made (fit-before (largest f.limits) cs c all)
unmade-more (Err e) seen more cs c f not made fits = absurd made

-- one more constraint, whose forms could not be made
pub unmade-now : {A : Type 0} (r : Result A NormalFault) (e : NormalFault) (seen : List (List ℕ)) (cs : List Linear) (c : Linear) (f : FormsSoFar) (limit : ℕ) → r ≡ Err e
    → largest f.limits ≡ limit → (r ≡ Err NormalFault.Overflow) ↔ (limit < magnitude c.terms + unsigned_abs c.degree) → AllFit limit cs → MadeAs (Err (fault_of e)) seen (cs ++ c ∷ []) f
unmade-now r NormalFault.Memory seen cs c f limit is same over all = rw same (fit-more limit cs c all (unfit-not r is over))
  where
    unfit-not : {A : Type 0} {n m : ℕ} (r : Result A NormalFault) → r ≡ Err NormalFault.Memory → (r ≡ Err NormalFault.Overflow) ↔ (n < m) → m ≤ n
    unfit-not {n} {m} r is over = grind (arith, over.1, cases_lt n m)
unmade-now r NormalFault.Overflow seen cs c f limit is same over all = λ fit. omega (arith, over.0 is, fit-last limit cs c (rw same at fit))

-- ---- the forms of constraints, after other names have appeared too

module _ (seen : List (List ℕ)) (cs : List Linear) (others : List (List ℕ)) (old : FormsSoFar) (h : AreMade seen cs old) (new : List (List ℕ)) (e : new ≡ with_names old.names others) where
  names-then : new ≡ with_names [] (seen ++ others)
  names-then = e ∙ (ap (λ (ks : List (List ℕ)). with_names ks others) h.names ∙ sym (in_turn [] seen others))

  abbrev more : List (List ℕ)
  more = (prefix old.names others).0

  is-more : new ≡ old.names ++ more
  is-more = e ∙ (prefix old.names others).1

  apart : AreDistinct (old.names ++ more)
  apart = subst AreDistinct (sym names-then ∙ is-more) (distinct [] (seen ++ others) tt)

  still-named : HasNames new (constraint_names cs)
  still-named = subst (λ (ks : List (List ℕ)). HasNames ks (constraint_names cs)) (sym is-more) (HasNames-append old.names more (constraint_names cs) h.has)

  still-loaded : AreFormsOf new (sides_in cs) old.forms.items
  still-loaded =
      subst (λ (ks : List (List ℕ)). AreFormsOf ks (sides_in cs) old.forms.items) (sym is-more) (forms_more old.names more (sides_in cs) old.forms.items apart (are_named old.names cs h.has) h.loaded)

module _ (seen : List (List ℕ)) (cs : List Linear) (old new : FormsSoFar) (h : AreMade seen cs old) (l : new.limits ≡ old.limits) where
  pub made-named : (others : List (List ℕ)) → new.names ≡ with_names old.names others → new.forms.items ≡ old.forms.items → AreMade (seen ++ others) cs new
  made-named others e same = record {
    names = names-then seen cs others old h new.names e;
    has = still-named seen cs others old h new.names e;
    loaded = subst (AreFormsOf new.names (sides_in cs)) (sym same) (still-loaded seen cs others old h new.names e);
    fit = rw l h.fit;
  }

  pub made-added : (c : Linear) → Fits (largest old.limits) c → HasNames new.names (names_of c.terms) → new.names ≡ with_names old.names (names_of c.terms)
      → (added : List Form) × AreFormsOf new.names (with_sides c.relation c) added × (new.forms.items ≡ old.forms.items ++ added) → AreMade (seen ++ names_of c.terms) (cs ++ c ∷ []) new
  made-added c fits has e (added, are, longer) =
      let others = names_of c.terms in
      let alone : constraint_names (cs ++ c ∷ []) ≡ constraint_names cs ++ others =
      flat_map-append (λ (x : Linear). names_of x.terms) cs (c ∷ []) ∙ ap (λ (ns : List (List ℕ)). constraint_names cs ++ ns) (append-nil others) in
      let sides : sides_in (cs ++ c ∷ []) ≡ sides_in cs ++ with_sides c.relation c =
      flat_map-append (λ (x : Linear). with_sides x.relation x) cs (c ∷ []) ∙ ap (λ (ss : List (Side × Linear)). sides_in cs ++ ss) (append-nil (with_sides c.relation c)) in
      record {
        names = names-then seen cs others old h new.names e;
        has = subst (HasNames new.names) (sym alone) (has_both new.names (constraint_names cs) others (still-named seen cs others old h new.names e) has);
        loaded = rw (sides, longer) (forms_then new.names (sides_in cs) (with_sides c.relation c) old.forms.items added (still-loaded seen cs others old h new.names e) are);
        fit = rw l (fit-more (largest old.limits) cs c h.fit fits);
      }

-- ---- what is stored of statements, and one more

module _ (events : List OpbEvent) (o : Option (List Term)) (f : FormsSoFar) (h : IsStored events o f) where
  same-objective : o ≡ last_or None (objectives_in events ++ [])
  same-objective = h.objective_is ∙ ap (last_or None) (sym (append-nil (objectives_in events)))

  same-made : Made (names_on events ++ []) (constraints_in events ++ []) f
  same-made = rw (append-nil (names_on events), append-nil (constraints_in events)) h.made

  stored-next : (e : OpbEvent) (p : Option (List Term)) (g : FormsSoFar) → p ≡ last_or None (objectives_in events ++ objectives_in (e ∷ []))
      → Made (names_on events ++ names_at e) (constraints_in events ++ constraints_in (e ∷ [])) g → IsStored (events ++ e ∷ []) p g
  stored-next e p g same made = record { objective_is = rw (objectives_more events e) same; made = rw (names_more events e, constraints_more events e) made }

  pub stored-header : (x m : ℕ) (tail : List ℕ) → IsStored (events ++ Header x m tail ∷ []) o f
  stored-header x m tail = stored-next (Header x m tail) o f same-objective same-made

  pub stored-comment : (text : List ℕ) → IsStored (events ++ Comment text ∷ []) o f
  stored-comment text = stored-next (Comment text) o f same-objective same-made

  pub stored-objective : (terms : List Term) (g : FormsSoFar) → Made (names_on events ++ names_of terms) (constraints_in events) g → IsStored (events ++ Objective terms ∷ []) (Some terms) g
  stored-objective terms g made = stored-next (Objective terms) (Some terms) g (sym (last_more None (Some terms) (objectives_in events))) (rw (append-nil (constraints_in events)) made)

  pub stored-constraint : (c : Linear) (g : FormsSoFar) → Made (names_on events ++ names_of c.terms) (constraints_in events ++ c ∷ []) g → IsStored (events ++ Constraint c ∷ []) o g
  stored-constraint c g made = stored-next (Constraint c) o g same-objective made

-- ---- the instance that the statements are

module _ (events : List OpbEvent) (o : Option (List Term)) (f : FormsSoFar) (h : IsStored events o f) (v : Instance) (order : NamesInOrder events v) where
  abbrev limit : ℕ
  limit = largest f.limits

  its-objective : o ≡ v.objective
  its-objective = h.objective_is ∙ sym order.0.objective

  fits-all : AllFit limit (constraints_in events) → magnitude (objective_of o) ≤ limit → FitsAll limit v
  fits-all fit small = record {
    constraints = subst (AllFit limit) (sym order.0.constraints) fit;
    objective = subst (λ (p : Option (List Term)). magnitude (objective_of p) ≤ limit) its-objective small;
  }

  unopened : (AllFit limit (constraints_in events) → ⊥) → Opened limit v (Err Overflow)
  unopened none = inr (λ fits. none (subst (AllFit limit) order.0.constraints fits.constraints), refl)

  pub fit-made : f.made ≡ Ok tt → magnitude (objective_of o) ≤ limit → FitsAll limit v
  fit-made is small = fits-all (made-ok (names_on events) (constraints_in events) f is h.made).fit small

  pub is-loaded : f.made ≡ Ok tt → magnitude (objective_of o) ≤ limit → (r : Running) → IsFirst f.limits r → problem_of r ≡ record { loaded = f.forms.items; objective = o; names = f.names } → IsLoaded f.limits v r
  is-loaded is small r first same =
      let made = made-ok (names_on events) (constraints_in events) f is h.made in
      let names : f.names ≡ names_in v = made.names ∙ ap (with_names []) order.1 in
      let own : AreFormsOf f.names (sides_in v.constraints) f.forms.items = subst (λ (cs : List Linear). AreFormsOf f.names (sides_in cs) f.forms.items) (sym order.0.constraints) made.loaded in
      let forms : AreFormsOf (names_in v) (sides_in v.constraints) f.forms.items = subst (λ (ks : List (List ℕ)). AreFormsOf ks (sides_in v.constraints) f.forms.items) names own in
      let problem : problem_of r ≡ record { loaded = f.forms.items; objective = v.objective; names = names_in v } = same ∙ cc (its-objective, names) in
      record {
        opened = inl (fit-made is small, (f.forms.items, forms, let to : Problem → Result Problem Fault = λ p. Ok p in ap to problem));
        first = first;
        fits = let k = ap (λ (p : Problem). magnitude (objective_of p.objective)) same in rw k small;
      }

-- why there is none
pub not-made : (events : List OpbEvent) (o : Option (List Term)) (f : FormsSoFar) → IsStored events o f → (e : Fault) → MadeAs (Err e) (names_on events) (constraints_in events) f
    → (e ≡ Memory) ⊎ ((v : Instance) → NamesInOrder events v → Opened (largest f.limits) v (Err e))
not-made events o f h Memory made = inl refl
not-made events o f h Overflow made = inr (λ v order. unopened events o f h v order made)
not-made events o f h e made = absurd made

-- what a result is for each instance
pub for-each : {A : Type 0} (r : Result A Fault) (Q : Instance → Type 0) (P : A → Instance → Type 0) → ((v : Instance) → Q v → IfOk r (λ x. P x v)) → IfOk r (λ x. (v : Instance) → Q v → P x v)
for-each (Ok x) Q P h = h
for-each (Err e) Q P h = tt
