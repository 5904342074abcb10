-- What statements do on a replay, whatever was logged, the visits of a `rup`, and what is true before each statement
use Rattle.pb_replay.proofs.Common.{ℕ, ◌≡◌, List, subst, Option, Result, Form, Stage, Limits, top_of, Fault, Verdict, added, Logged, State, ℤ, Err, inl, inr}
use Rattle.pb_replay.proofs.Common.{refl, sym, Ok, Statement, stage_of, Adding, Carries, Comes, does_in, Goes, IsBest, outcome_in, state_of, with_mentioned}
use Rattle.pb_replay.proofs.Common.{Running, Answer, ◌∙◌, ap, false, length, IfErr, OnOk, Delete, IsInside, IsLinked, Deleted, ◌∷◌, [], HasNames, with_names}
use Rattle.pb_replay.proofs.Common.{PolWord, arith, Id, Pol, Constraint, Tree, words, largest, HasNamed, some, IsNamePrefix, FormOfExpression, IsLive}
use Rattle.pb_replay.proofs.Common.{word_names, ◌++◌, ◌<◌, ◌≤◌, ◌⊎◌, append_assoc, Bool, IsTrue, map, Side, Some, true, ◌↔◌, cases_lt, prefix, NormalFault}
use Rattle.pb_replay.proofs.Common.{Fits, IsSideOf, names_of, Steps, F, Rup, IsRup, Live, Linear, same_err, Keeps, Memory, NotImplied, Overflow, IsCount, ◌*◌}
use Rattle.pb_replay.proofs.Common.{◌+◌, sum_by, IsFormOf-unique, NumberedLiteral, negation_of, one_in, terms_in, IsCompletion, MeetsConflict, With, ok_or_err}
use Rattle.pb_replay.proofs.Common.{IdsSpent, Order, ◌≤ℤ◌, None, Contains, ints, Contains-append_left, Contains-push, Contains-push_cases, none-some}
use Rattle.pb_replay.proofs.Common.{contains-none, IsBetter, length-append, take, IfSome, take-length, length-take-le, take-append-le, All-contains, same_Some}
use Rattle.pb_replay.proofs.Common.{in_turn, AreFormsOf, constraint_names, sides_in, magnitude, Instance, IsStatementValue, Term, IsKept, IsOpened, IsProper}
use Rattle.pb_replay.proofs.Common.{IsReady, problem_of, NotTotal, IsSound, Means, MeansWritten, names_in, objective_of, Opened, Problem, ◌-ℤ◌, pos, GoesAt}
use Rattle.pb_replay.proofs.Common.{Logs, Demands, HasObjective, objective_with, normal_form, Does, mentioned}
use Rattle.pb_replay.proofs.lemmas.meaning.{Accepting.ok-same, Assigned.length-prefix, Relating.unvalued-old, Ruled.deletes-to}
use Rattle.pb_replay.proofs.lemmas.meaning.Soundness.{problems-proper, loaded-inside, meanings-agree, Deletes-live, first-sound, statements-sound}
use Rattle.{pb_replay.proofs.lemmas.rules.Live.inside-more, pb_replay.proofs.lemmas.rules.Words.tree-inside, std.specs.List.All as AllOf}
use Rattle.pb_replay.proofs.Common.{AreLive, first_state, option_map}
use Rattle.pb_replay.specs.engine.Constraints.{Constrained}
use Rattle.pb_replay.specs.contract.{Faults.fault_of, ReplayModel.IsLoaded, ReplayModel.Preserves, Visits.RupVisits, Visits.IsFew, Visits.CoversConflict, Visits.CoversCompletion}

-- states are equal if their fields are
pub same-state : {l m : List (Option Form)} {ns ms : List (List ℕ)} {logged : List Logged} {x y : Stage} {c d : Option Verdict} → l ≡ m → ns ≡ ms → x ≡ y → c ≡ d
    → (let s : State = record { live = l; names = ns; logged = logged; next = x; concluded = c } in s) ≡ record { live = m; names = ms; logged = logged; next = y; concluded = d }
same-state e f g h = cc (e, f, g, h)

-- what adding a form results in, from an equal state
pub added-over : (old m : Limits) → m ≡ old → (s t : State) → s ≡ t → (logged : List Logged) (form : Form) (r : Result State Fault) → added (top_of m) s logged form r → added (top_of old) t logged form r
added-over old m l s t e logged form r h =
    subst (λ (x : Limits). added (top_of x) t logged form r) l (subst (λ (y : State). added (top_of m) y logged form r) e h)

-- by another answer
pub carries-from : (old m : Running) (P Q : State → Answer State) → m.best ≡ old.best → ((logged : List Logged) (r : Result State Fault) → P (state_of m logged) r → Q (state_of old logged) r)
    → (result : Result Unit Fault) (new : Running) → Carries m P result new → Carries old Q result new
carries-from old m P Q same to (Ok u) new h = λ logged best.
    let k = h logged (subst (λ (b : Option ℤ). IsBest logged b) (sym same) best) in (k.0, k.1, to logged (Ok (state_of new k.0)) k.2)
carries-from old m P Q same to (Err e) new (inl memory) = inl memory
carries-from old m P Q same to (Err e) new (inr h) = inr (λ logged best. to logged (Err e) (h logged (subst (λ (b : Option ℤ). IsBest logged b) (sym same) best)))

-- by the addition of a form
pub carries-added : (old m : Running) (form : Form) (Q : State → Answer State) → ((logged : List Logged) (r : Result State Fault) → added (top_of m.limits) (state_of m logged) logged form r → Q (state_of old logged) r)
    → (result : Result Unit Fault) (new : Running) → new.best ≡ old.best → Adding m form result new → Carries old Q result new
carries-added old m form Q to (Ok u) new same h = λ logged best. (logged, rw same best, to logged (Ok (state_of new logged)) (h logged logged))
carries-added old m form Q to (Err e) new same (inl memory) = inl memory
carries-added old m form Q to (Err e) new same (inr h) = inr (λ logged best. to logged (Err e) (h logged logged))

-- a statement that logs nothing
pub goes-ok : (old new : Running) (st : Statement) → new.best ≡ old.best → ((logged : List Logged) → does_in old st (with_mentioned (state_of old logged) st) (Ok (state_of new logged))) → Goes old st (Ok tt) new
goes-ok old new st same h logged best = (logged, rw same best, h logged)

pub goes-err : (old new : Running) (st : Statement) (e : Fault) → ((logged : List Logged) → does_in old st (with_mentioned (state_of old logged) st) (Err e)) → Goes old st (Err e) new
goes-err old new st e h = inr (λ logged best. h logged)

-- a statement at a stage where it may come, whatever the number of visits
pub came : (old : Running) (visits : ℕ) (st : Statement) → old.next ≡ stage_of st → (result : Result Unit Fault) (new : Running) → Goes (record old { visits = visits }) st result new → Comes old st result new
came old visits st next = carries-from old (record old { visits = visits }) (λ s. does_in old st (with_mentioned s st)) (outcome_in old st) refl (λ logged r h. inl (next, h))

pub delete-goes : (old new : Running) (ids : List ℤ) (result : Result Unit Fault) → new.best ≡ old.best → new.names ≡ old.names → new.next ≡ old.next → new.concluded ≡ old.concluded
    → OnOk result (Deleted old.constraints.forms ids (Ok new.constraints.forms)) → IfErr result (λ e. Deleted old.constraints.forms ids (Err e)) → Goes old (Delete ids) result new
delete-goes old new ids (Ok u) b n x d done bad =
    goes-ok old new (Delete ids) b (λ logged. inl (new.constraints.forms, done, let to : State → Result State Fault = λ s. Ok s in ap to (same-state refl n x d)))
delete-goes old new ids (Err e) b n x d done bad = goes-err old new (Delete ids) e (λ logged. inr (e, bad, refl))

pub delete-linked : (old new : Running) (ids : List ℤ) (result : Result Unit Fault) → IsLinked old → new.names ≡ old.names → OnOk result (Deleted old.constraints.forms ids (Ok new.constraints.forms)) → new.constraints.variables ≡ old.constraints.variables → new.constraints.spent ≡ false → OnOk result (IsLinked new)
delete-linked old new ids (Ok u) linked n done variables ready = record {
  ready = ready;
  variables = variables ∙ linked.variables ∙ ap length (sym n);
  inside = λ f c. subst (λ (ns : List (List ℕ)). IsInside (length ns) f) (sym n) (linked.inside f (Deletes-live old.constraints.forms ids new.constraints.forms (deletes-to old.constraints.forms ids new.constraints.forms done) f c));
}
delete-linked old new ids (Err e) linked n done variables ready = tt

-- one id is an expression of its constraint
pub repeated-form : (limit : ℕ) (names : List (List ℕ)) (live : List (Option Form)) (ws : List PolWord) (form : Form) → (id : ℤ) × (ws ≡ Id id ∷ []) × IsLive live id form → some (λ tree. ws ≡ words tree) (FormOfExpression limit names live) (Ok form)
repeated-form limit names live ws form (id, is, there) = (Constraint id, is, inl (form, there, refl))

pub pol-inside : (old : Running) (names : List (List ℕ)) (live : List (Option Form)) (limit : ℕ) (ws : List PolWord) (form : Form) → IsLinked old → IsNamePrefix old.names names → live ≡ old.constraints.forms → HasNames names (word_names ws)
    → some (λ tree. ws ≡ words tree) (FormOfExpression limit names live) (Ok form) → IsInside (length names) form
pol-inside old names live limit ws form linked begins same named (tree, is, made) = grind (arith, tree-inside, inside-more, old.names, length-prefix, linked.inside)

module _ (old m : Running) (ws vs : List PolWord) (form : Form) (named : HasNamed (word_names ws) old m) where
  made_over : (tree : Tree) → FormOfExpression (largest old.limits) m.names m.constraints.forms tree (Ok form) → FormOfExpression (largest old.limits) (with_names old.names (word_names ws)) old.constraints.forms tree (Ok form)
  made_over tree made =
      subst (λ (l : List (Option Form)). FormOfExpression (largest old.limits) (with_names old.names (word_names ws)) l tree (Ok form)) named.forms (subst (λ (ns : List (List ℕ)). FormOfExpression (largest old.limits) ns m.constraints.forms tree (Ok form)) named.names made)

  pub pol-goes : (result : Result Unit Fault) (new : Running) → ws ≡ vs → m.limits ≡ old.limits → new.best ≡ m.best
      → some (λ tree. vs ≡ words tree) (FormOfExpression (largest old.limits) m.names m.constraints.forms) (Ok form) → Adding m form result new → Goes old (Pol ws) result new
  pol-goes result new w l best (tree, is, made) =
      carries-added old m form (λ s. does_in old (Pol ws) (with_mentioned s (Pol ws)))
      (λ logged r h. (tree, w ∙ is, inl (form, made_over tree made, added-over old.limits m.limits l (state_of m logged) (with_mentioned (state_of old logged) (Pol ws)) (same-state named.forms named.names named.next named.concluded) logged form r h)))
      result new (best ∙ named.best)

-- a form was made, so its numbers fit
pub fits_of : {A : Type 0} (r : Result A NormalFault) (x : A) (limit n : ℕ) → r ≡ Ok x → (r ≡ Err NormalFault.Overflow) ↔ (limit < n) → n ≤ limit
fits_of r x limit n e h = grind (arith, h.1, cases_lt limit n)

module _ (old entered : Running) (linear : Linear) (form : Form) (named : HasNamed (names_of linear.terms) old entered) (fits : Fits (largest old.limits) linear) (is : IsSideOf entered.names Side.AtLeast linear form) where
  side_over : IsSideOf (with_names old.names (names_of linear.terms)) Side.AtLeast linear form
  side_over = rw named.names at is

  pub rup_added : (middle new : Running) (result : Result Unit Fault) → HasNamed [] entered middle → middle.limits ≡ old.limits → new.best ≡ middle.best → IsRup (Live old.constraints.forms) form → Adding middle form result new → Goes old (Rup linear) result new
  rup_added middle new result same l best implied =
      carries-added old middle form (λ s. does_in old (Rup linear) (with_mentioned s (Rup linear)))
      (λ logged r h. inl (fits, (form, side_over, inl (implied, added-over old.limits middle.limits l (state_of middle logged) (with_mentioned (state_of old logged) (Rup linear)) (same-state (same.forms ∙ named.forms) (same.names ∙ named.names) (same.next ∙ named.next) (same.concluded ∙ named.concluded)) logged form r h))))
      result new (best ∙ same.best ∙ named.best)

  pub rup_refused : (new : Running) → (IsRup (Live old.constraints.forms) form → ⊥) → Goes old (Rup linear) (Err NotImplied) new
  rup_refused new none = goes-err old new (Rup linear) NotImplied (λ logged. inl (fits, (form, side_over, inr (none, refl))))

  pub rup_judged : (middle new : Running) (result : Result Unit Fault) → HasNamed [] entered middle → middle.limits ≡ old.limits → new.best ≡ middle.best
      → (implied : Bool) → (implied ≡ true → IsRup (Live old.constraints.forms) form) → (implied ≡ false → IsRup (Live old.constraints.forms) form → ⊥)
      → (implied ≡ true → Adding middle form result new) → (implied ≡ false → result ≡ Err NotImplied) → Goes old (Rup linear) result new
  rup_judged middle new result same l best true is none adding refused = rup_added middle new result same l best (is refl) (adding refl)
  rup_judged middle new result same l best false is none adding refused =
      subst (λ (r : Result Unit Fault). Goes old (Rup linear) r new) (sym (refused refl)) (rup_refused new (none refl))

-- no form was made
pub rup_unmade : (old : Running) (linear : Linear) (e : Fault) (new : Running) (result : Result Unit Fault) → result ≡ Err e → (e ≡ Memory) ⊎ ((e ≡ Overflow) × (Fits (largest old.limits) linear → ⊥)) → Goes old (Rup linear) result new
rup_unmade old linear e new result same bad = grind (arith, goes-err)

-- if memory ran out, the constraint fits
pub unmade : {P Q : Type 0} (e : Fault) → ((e ≡ Memory) × P) ⊎ ((e ≡ Overflow) × Q) → (e ≡ Memory) ⊎ ((e ≡ Overflow) × Q)
unmade e h = grind arith

pub unmade-fits : {A P Q : Type 0} (e : Fault) (result : Result A Fault) → result ≡ Err e → result ≡ Err Memory → ((e ≡ Memory) × P) ⊎ ((e ≡ Overflow) × Q) → P
unmade-fits e result is memory h = grind arith

-- names that appeared come after the others
pub prefix_after : (old new others : List (List ℕ)) → new ≡ with_names old others → IsNamePrefix old new
prefix_after old new others e = let f = prefix old others in (f.0, e ∙ f.1)

pub prefix_then : (a b c : List (List ℕ)) → IsNamePrefix a b → IsNamePrefix b c → IsNamePrefix a c
prefix_then a b c (more, e) (last, k) = (more ++ last, k ∙ ap (λ (ns : List (List ℕ)). ns ++ last) e ∙ append_assoc a more last)

pub keeps_then : (a b c : Running) → Keeps a b → Keeps b c → Keeps a c
keeps_then a b c h k = record {
  limits = k.limits ∙ h.limits;
  own = k.own ∙ h.own;
  loaded = k.loaded ∙ h.loaded;
  objective = k.objective ∙ h.objective;
  names = prefix_then a.names b.names c.names h.names k.names;
}

pub preserves_then : {A B : Type 0} (a b c : Running) (r : Result A Fault) (s : Result B Fault) → Preserves a r b → Preserves b s c → Preserves a s c
preserves_then a b c r s h k = record { linked = k.linked; kept = keeps_then a b c h.kept k.kept; visits = k.visits ∙ h.visits }

pub not_so : (b : Bool) (P : Type 0) → b ≡ false → IsTrue b ↔ P → P → ⊥
not_so b P e h p = grind arith

pub is_so : (b : Bool) (P : Type 0) → b ≡ true → IsTrue b ↔ P → P
is_so b P e h = grind arith

pub loaded-goes : (old new : Running) (count : Option ℕ) → new.best ≡ old.best → new.names ≡ old.names → new.concluded ≡ old.concluded → new.next ≡ Steps → new.constraints.forms ≡ map (λ (f : Form). let o : Option Form = Some f in o) old.constraints.loaded
    → IsCount count (length old.constraints.loaded) → length old.constraints.loaded ≤ top_of old.limits → Goes old (F count) (Ok tt) new
loaded-goes old new count b n d x f counted le =
    goes-ok old new (F count) b (λ logged. inl (counted, inl (le, let to : State → Result State Fault = λ s. Ok s in ap to (same-state f n x d))))

adding-fault : (old new : Running) (form : Form) (result : Result Unit Fault) (e : Fault) → Adding old form result new → result ≡ Err e → (e ≡ Memory) ⊎ (e ≡ IdsSpent)
adding-fault old new form (Ok u) e h is = ok_or_err is
adding-fault old new form (Err d) e (inl memory) is = inl (sym (same_err is) ∙ memory)
adding-fault old new form (Err d) e (inr h) is = inr (sym (same_err is) ∙ spent (h [] []))
  where
    spent : added (top_of old.limits) (state_of old []) [] form (Err d) → d ≡ IdsSpent
    spent (inl k) = ok_or_err (sym k.1)
    spent (inr k) = same_err k.1

module _ (linear : Linear) (mid live : List (Option Form)) (names new : List (List ℕ)) (form : Form) (count visits : ℕ) (forms : mid ≡ live) (appeared : new ≡ with_names names (names_of linear.terms)) (is : IsSideOf new Side.AtLeast linear form)
    (most : count ≤ 3 * (sum_by terms_in mid + length form.terms) + (sum_by one_in mid + 1)) (unasked : form.degree ≡ 0 → count ≡ 0) (same : visits ≡ count) where
  same_goal : (goal : Form) → IsSideOf (with_names names (names_of linear.terms)) Side.AtLeast linear goal → form ≡ goal
  same_goal goal h = IsFormOf-unique (with_names names (names_of linear.terms)) _ _ form goal (subst (λ (ns : List (List ℕ)). IsSideOf ns Side.AtLeast linear form) appeared is) h

  few-of : (goal : Form) → IsSideOf (with_names names (names_of linear.terms)) Side.AtLeast linear goal → IsFew live goal visits
  few-of goal h =
      let at : IsFew mid form visits = omega (arith, most, same) in
      subst (λ (f : Form). IsFew live f visits) (same_goal goal h) (subst (λ (l : List (Option Form)). IsFew l form visits) forms at)

  unasked-of : (goal : Form) → IsSideOf (with_names names (names_of linear.terms)) Side.AtLeast linear goal → goal.degree ≡ 0 → visits ≡ 0
  unasked-of goal h zero = same ∙ unasked (ap (λ (f : Form). f.degree) (same_goal goal h) ∙ zero)

  pub visits-implied : (old after : Running) (result : Result Unit Fault) → (form.degree ≡ 0) ⊎ ((m : MeetsConflict (With (Live mid) (negation_of form)) []) × (length m.list ≤ count)) → Adding old form result after → RupVisits live (with_names names (names_of linear.terms)) linear result visits
  visits-implied old after result met adding = record {
    few = few-of;
    conflict = λ e goal h. subst (λ (f : Form). CoversConflict live f visits) (same_goal goal h) (subst (λ (l : List (Option Form)). CoversConflict l form visits) forms (covered met));
    completion = λ e goal h. grind (arith, adding-fault old after form result NotImplied adding);
    unasked = unasked-of;
    refused = λ bad. grind (arith, adding-fault old after form result Order adding, adding-fault old after form result Overflow adding);
  }
    where
      covered : (form.degree ≡ 0) ⊎ ((m : MeetsConflict (With (Live mid) (negation_of form)) []) × (length m.list ≤ count)) → CoversConflict mid form visits
      covered (inl none) some = absurd (omega (arith, none, some))
      covered (inr (m, le)) some = (m.list, m.derived, m.conflict, omega (arith, le, same))

  pub visits-not : (list : List NumberedLiteral) × IsCompletion (With (Live mid) (negation_of form)) [] list × (length list ≤ count) → RupVisits live (with_names names (names_of linear.terms)) linear (Err NotImplied) visits
  visits-not done = record {
    few = few-of;
    conflict = λ e goal h. grind arith;
    completion = λ e goal h.
        let at : CoversCompletion mid form visits = (done.0, done.1, omega (arith, done.2, same)) in
        subst (λ (f : Form). CoversCompletion live f visits) (same_goal goal h) (subst (λ (l : List (Option Form)). CoversCompletion l form visits) forms at);
    unasked = unasked-of;
    refused = λ bad. grind arith;
  }

  -- memory ran out in the middle
  pub visits-memory : (result : Result Unit Fault) → result ≡ Err Memory → RupVisits live (with_names names (names_of linear.terms)) linear result visits
  visits-memory result memory = record {
    few = few-of;
    conflict = λ e goal h. grind (arith, memory);
    completion = λ e goal h. grind (arith, memory);
    unasked = unasked-of;
    refused = λ bad. grind (arith, memory);
  }

  pub visits-judged : (old after : Running) (result : Result Unit Fault) (implied : Bool) → (implied ≡ true → (form.degree ≡ 0) ⊎ ((m : MeetsConflict (With (Live mid) (negation_of form)) []) × (length m.list ≤ count)))
      → (implied ≡ false → (list : List NumberedLiteral) × IsCompletion (With (Live mid) (negation_of form)) [] list × (length list ≤ count)) → (implied ≡ true → Adding old form result after) → (implied ≡ false → result ≡ Err NotImplied)
      → RupVisits live (with_names names (names_of linear.terms)) linear result visits
  visits-judged old after result true met done adding refused = visits-implied old after result (met refl) (adding refl)
  visits-judged old after result false met done adding refused =
      subst (λ (r : Result Unit Fault). RupVisits live (with_names names (names_of linear.terms)) linear r visits) (sym (refused refl)) (visits-not (done refl))

-- no form was made
pub visits-none : (linear : Linear) (live : List (Option Form)) (names : List (List ℕ)) {P : Type 0} (e : Fault) (result : Result Unit Fault) (visits : ℕ) → result ≡ Err e → visits ≡ 0 → (e ≡ Memory) ⊎ ((e ≡ Overflow) × P) → RupVisits live names linear result visits
visits-none linear live names e result visits same none bad = grind (arith)

pub nothing : (logged : List Logged) (best : Option ℤ) → IsBest logged best → best ≡ None → logged ≡ []
nothing logged best h e = grind arith

pub best-push : (logged : List Logged) (best : Option ℤ) (g : Logged) (r : ℤ) → IsBest logged best → IsBetter best g.value r → IsBest (logged ++ g ∷ []) (Some r)
best-push logged None g r h e = (
  (g, Contains-push logged g, sym e),
  λ k c. elim (Contains-push_cases logged g k c) [
    | inl old ↦ absurd (contains-none logged k h old)
    | inr new ↦ omega (arith, ints, e, ap (λ (x : Logged). x.value) new)
  ],
)
best-push logged (Some b) g r h e = (
  reached e.2,
  λ k c. elim (Contains-push_cases logged g k c) [
    | inl old ↦ omega (arith, ints, e.0, h.1 k old)
    | inr new ↦ omega (arith, ints, e.1, ap (λ (x : Logged). x.value) new)
  ],
)
  where
    reached : (r ≡ b) ⊎ (r ≡ g.value) → (k : Logged) × Contains (logged ++ g ∷ []) k × (k.value ≡ r)
    reached (inl is) = let one = h.0 in (one.0, Contains-append_left logged (g ∷ []) one.0 one.1, one.2 ∙ sym is)
    reached (inr is) = (g, Contains-push logged g, sym is)

pub below : (logged : List Logged) (b bound : ℤ) → IsBest logged (Some b) → (bound ≤ℤ b) ↔ ((g : Logged) → Contains logged g → bound ≤ℤ g.value)
below logged b bound h = (
  λ le g c. omega (arith, ints, le, h.1 g c),
  λ each. let one = h.0 in omega (arith, ints, each one.0 one.1, one.2),
)

pub meant : (v : Problem) (s : State) (o : Option Verdict) → IsSound v s → o ≡ s.concluded → IfSome o (Means v)
meant v s None sound e = tt
meant v s (Some w) sound e = sound.meant w (sym e)

-- the names of the instance stay a prefix
own_names : (own : ℕ) (names new : List (List ℕ)) → own ≤ length names → IsNamePrefix names new → take own new ≡ take own names
own_names own names new le (more, e) = ap (take own) e ∙ take-append-le own names more le

same_fields : (fs gs : List Form) (o p : Option (List Term)) (ns ms : List (List ℕ)) → fs ≡ gs → o ≡ p → ns ≡ ms → (let v : Problem = record { loaded = fs; objective = o; names = ns } in v) ≡ record { loaded = gs; objective = p; names = ms }
same_fields fs gs o p ns ms e f g = rw (e, f, g) refl

pub same_problem : (old new : Running) → IsProper old → Keeps old new → problem_of new ≡ problem_of old
same_problem old new proper k = grind (arith, new.own, new.names, old.own, old.names, k.own, own_names, proper.own, k.names, same_fields, new.objective, old.objective, k.loaded, k.objective)

pub proper_kept : (old new : Running) → IsProper old → Keeps old new → IsProper new
proper_kept old new proper k = grind (arith, same_problem, k.names, k.own, proper.own, length-append, old.names, proper.problem, k.limits, old.limits, proper.fits, proper.loaded, k.loaded)

pub ready_after : (old new : Running) (st : Statement) → IsStatementValue (largest old.limits) (top_of old.limits) st → IsReady old → Comes old st (Ok tt) new → Keeps old new → IsLinked new → IsReady new
ready_after old new st value ready comes k linked =
    let same = same_problem old new ready.proper k in let before = ready.sound in let after = comes before.0 before.1 in
    let sound = statements-sound (largest old.limits) (top_of old.limits) (problem_of old) (state_of old before.0) (state_of new after.0) st ready.proper.problem value before.2 after.2 in
    record {
      proper = proper_kept old new ready.proper k;
      linked = linked;
      sound = (after.0, after.1, rw same sound);
    }

-- a state that a replay represents
pub stood : (r : Running) (s : State) → s.live ≡ r.constraints.forms → s.names ≡ r.names → s.next ≡ r.next → s.concluded ≡ r.concluded → state_of r s.logged ≡ s
stood r s e f g h = sym (same-state e f g h)

pub step-ok : (old new : Running) (st : Statement) → Comes old st (Ok tt) new → (s : State) → s.live ≡ old.constraints.forms → s.names ≡ old.names → IsBest s.logged old.best → s.next ≡ old.next → s.concluded ≡ old.concluded
    → (more : List Logged) × IsBest more new.best × outcome_in old st s (Ok (state_of new more))
step-ok old new st comes s e f best g h =
    let k = comes s.logged best in (k.0, k.1, subst (λ (x : State). outcome_in old st x (Ok (state_of new k.0))) (stood old s e f g h) k.2)

pub step-err : (old new : Running) (st : Statement) (d : Fault) → (d ≡ Memory) ⊎ ((logged : List Logged) → IsBest logged old.best → outcome_in old st (state_of old logged) (Err d))
    → (d ≡ Memory) ⊎ ((s : State) → s.live ≡ old.constraints.forms → s.names ≡ old.names → IsBest s.logged old.best → s.next ≡ old.next → s.concluded ≡ old.concluded → outcome_in old st s (Err d))
step-err old new st d (inl memory) = inl memory
step-err old new st d (inr h) = inr (λ s e f best g k. subst (λ (x : State). outcome_in old st x (Err d)) (stood old s e f g k) (h s.logged best))

pub ready_first : (limits : Limits) (i : Instance) (r : Running) → IsOpened limits i r → IsReady r
ready_first limits i r opened =
    let first = opened.loaded.first in let proper = problems-proper (largest limits) i (problem_of r) opened.loaded.opened in
    let none : r.constraints.forms ≡ [] = ap (λ (s : State). s.live) first.state in
    record {
      proper = record {
        own = omega (arith, first.own);
        problem = proper;
        fits = rw first.limits opened.loaded.fits;
        loaded = λ f c. let h = loaded-inside (largest limits) i (problem_of r) opened.loaded.opened f c in rw (ap (λ n. length (take n r.names)) first.own ∙ ap length (take-length r.names) ∙ sym first.own) at h;
      };
      linked = record {
        ready = opened.ready;
        variables = opened.variables;
        inside = λ f c. absurd (contains-none r.constraints.forms (Some f) none c);
      };
      sound = ([], rw first.best refl, rw first.state (first-sound (problem_of r) proper));
    }

-- there is room for the variables and the constraints
pub opened-prepared : (limits : Limits) (i : Instance) (old : Running) (constraints : Constrained) → IsLoaded limits i old → constraints.loaded ≡ old.constraints.loaded → AreLive [] old.own constraints → IsOpened limits i (record old { constraints = constraints })
opened-prepared limits i old constraints is e live =
    let first = is.first in
    let same : problem_of (record old { constraints = constraints }) ≡ problem_of old =
    ap (λ (forms : List Form). let v : Problem = record { loaded = forms; objective = option_map (λ (x : Linear). x.terms) old.objective; names = take old.own old.names } in v) e in
    record {
      loaded = record {
        opened = subst (λ (v : Problem). Opened (largest limits) i (Ok v)) (sym same) is.opened;
        first = record {
          limits = first.limits;
          own = first.own;
          best = first.best;
          state = same-state (live.forms ∙ sym (ap (λ (s : State). s.live) first.state)) refl refl refl ∙ first.state ∙ ap first_state (sym same);
          visits = first.visits;
        };
        fits = is.fits;
      };
      ready = live.ready;
      variables = live.variables ∙ first.own;
    }

-- what an instance opens as
pub opened_ok : (limit : ℕ) (i : Instance) (forms : List Form) (o : Option (List Term)) (start names : List (List ℕ)) (cs : List Linear) → cs ≡ i.constraints → o ≡ i.objective → start ≡ with_names [] (names_of (objective_of i.objective)) → names ≡ with_names start (constraint_names cs)
    → AllOf (Fits limit) cs → magnitude (objective_of i.objective) ≤ limit → AreFormsOf names (sides_in cs) forms → Opened limit i (Ok (record { loaded = forms; objective = o; names = names }))
opened_ok limit i forms o start names cs same objective begins grown fits magnitudes are =
    let ns = names_of (objective_of i.objective) in
    let over : names ≡ names_in i =
    grown ∙ ap (λ (ks : List (List ℕ)). with_names ks (constraint_names cs)) begins ∙ sym (in_turn [] ns (constraint_names cs)) ∙ ap (λ (xs : List Linear). with_names [] (ns ++ constraint_names xs)) same in
    let all_fit : AllOf (Fits limit) i.constraints = rw same at fits in
    let P : List (List ℕ) → List Linear → Type 0 = λ ks xs. AreFormsOf ks (sides_in xs) forms in let first : P names cs = are in
    let last : P (names_in i) i.constraints = rw (over, same) at first in
    inl (
      record { constraints = λ c k. All-contains (Fits limit) i.constraints c all_fit k; objective = magnitudes },
      (forms, last, let to : Problem → Result Problem Fault = λ v. Ok v in ap to (same_fields forms forms o i.objective names (names_in i) refl objective over)),
    )

-- an instance does not open because of a constraint that does not fit
pub opened_err : (limit : ℕ) (i : Instance) (cs : List Linear) (e : NormalFault) (fault : Fault) → cs ≡ i.constraints → fault ≡ fault_of e → (e ≡ NormalFault.Overflow → (c : Linear) × Contains cs c × (Fits limit c → ⊥)) → (fault ≡ Memory) ⊎ Opened limit i (Err fault)
opened_err limit i cs NormalFault.Memory fault same is past = inl is
opened_err limit i cs NormalFault.Overflow fault same is past =
    let (c, has, over) = past refl in
    inr (inr (λ fits. over (fits.constraints c (subst (λ (xs : List Linear). Contains xs c) same has)), ap (λ (x : Fault). let r : Result Problem Fault = Err x in r) is))

pub own-length : (r : Running) → IsProper r → r.own ≡ length (take r.own r.names)
own-length r p = sym (length-take-le r.own r.names p.own)

-- what a verdict means for each instance that opens as the problem
pub meant-written : (v : Problem) (o : Option Verdict) → IfSome o (Means v) → IfSome o (λ w. (limit : ℕ) (i : Instance) → Opened limit i (Ok v) → MeansWritten i w)
meant-written v None h = tt
meant-written v (Some w) h = λ limit i opened. meanings-agree limit i v w opened h

-- a name that gets no value existed before
pub step-unvalued : (old new : Running) (st : Statement) (d : Fault) (n : ℕ) → IsReady old → Comes old st (Err d) new → (let r : Result Unit Fault = Err d in r) ≡ Err (NotTotal n) → n < length old.names
step-unvalued old new st d n ready (inl memory) e = absurd (let bad = sym memory ∙ same_err e in cc)
step-unvalued old new st d n ready (inr h) e =
    let s = ready.sound in
    unvalued-old (largest old.limits) (top_of old.limits) (problem_of old) (state_of old s.0) st n (s.2).distinct
    (subst (λ (f : Fault). outcome_in old st (state_of old s.0) (Err f)) (same_err e) (h s.0 s.1))

-- what is true after a statement
pub kept-ok : (old new : Running) (st : Statement) (fault : Option Fault) → IsStatementValue (largest old.limits) (top_of old.limits) st → IsKept old fault → Comes old st (Ok tt) new → Keeps old new → IsLinked new → IsKept new fault
kept-ok old new st fault value is comes k linked = grind (arith, ready_after, is.ready, is.reported, length-prefix, old.names, new.names, k.names)

pub kept-err : (old new : Running) (st : Statement) (d : Fault) → IsReady old → Comes old st (Err d) new → Keeps old new → IsKept new (Some d)
kept-err old new st d ready comes k = record {
  ready = λ none. absurd (none-some _ (sym none));
  reported = λ n e. omega (arith, step-unvalued old new st d n ready comes (ap (λ (x : Fault). let r : Result Unit Fault = Err x in r) (same_Some _ _ e)), length-prefix old.names new.names k.names);
}

module _ (old m : Running) (st : Statement) (named : HasNamed (mentioned st) old m) (proper : IsProper old) (kept : Keeps old m) where
  does-from : (logged : List Logged) (r : Result State Fault) → does_in m st (state_of m logged) r → does_in old st (with_mentioned (state_of old logged) st) r
  does-from logged r h =
      let same : state_of m logged ≡ with_mentioned (state_of old logged) st = same-state named.forms named.names named.next named.concluded in
      let one = subst (λ (s : State). does_in m st s r) same h in
      let two = subst (λ (v : Problem). Does (largest m.limits) (top_of m.limits) v (with_mentioned (state_of old logged) st) st r) (same_problem old m proper kept) one in
      subst (λ (l : Limits). Does (largest l) (top_of l) (problem_of old) (with_mentioned (state_of old logged) st) st r) kept.limits two

  pub goes-from : (result : Result Unit Fault) (new : Running) → GoesAt m st result new → Goes old st result new
  goes-from = carries-from old m (does_in m st) (λ s. does_in old st (with_mentioned s st)) named.best does-from

-- a step that changed nothing but the number of visits
module _ (old m : Running) (named : HasNamed [] old m) (kept : Keeps old m) where
  moved : (before after : List Logged) (form : Form) (r : Result State Fault) → added (top_of m.limits) (state_of m before) after form r → added (top_of old.limits) (state_of old before) after form r
  moved before after form r =
      added-over old.limits m.limits kept.limits (state_of m before) (state_of old before) (same-state named.forms named.names named.next named.concluded) after form r

  pub logs-from : (z : ℤ) (form : Form) (result : Result Unit Fault) (new : Running) → Logs m z form result new → Logs old z form result new
  logs-from z form (Ok u) new h = λ before g best is.
      let k = h before g (subst (λ (b : Option ℤ). IsBest before b) (sym named.best) best) is in
      (k.0, moved before (before ++ g ∷ []) form (Ok (state_of new (before ++ g ∷ []))) k.1)
  logs-from z form (Err e) new (inl memory) = inl memory
  logs-from z form (Err e) new (inr h) = inr (λ before g. moved before (before ++ g ∷ []) form (Err e) (h before g))

pub logs-ok : (old new : Running) (best : Option ℤ) (z b : ℤ) (form : Form) → best ≡ old.best → IsBetter best z b → new.best ≡ Some b
    → ((before after : List Logged) → added (top_of old.limits) (state_of old before) after form (Ok (state_of new after))) → Logs old z form (Ok tt) new
logs-ok old new best z b form e better is h before g was value =
    (subst (λ (o : Option ℤ). IsBest (before ++ g ∷ []) o) (sym is) (best-push before best g b (subst (λ (o : Option ℤ). IsBest before o) (sym e) was) (subst (λ (y : ℤ). IsBetter best y b) (sym value) better)), h before (before ++ g ∷ []))

pub logs-err : (old new : Running) (z : ℤ) (form : Form) (e : Fault) → Adding old form (Err e) new → Logs old z form (Err e) new
logs-err old new z form e (inl memory) = inl memory
logs-err old new z form e (inr h) = inr (λ before g. h before (before ++ g ∷ []))

demand-moved : (old m : Running) → HasNamed [] old m → Keeps old m → (before : List Logged) (g : Logged) (o : List Term) (r : Result State Fault)
    → normal_form (largest m.limits) m.names Side.AtMost (objective_with o (g.value -ℤ pos 1)) (added (top_of m.limits) (state_of m before) (before ++ g ∷ [])) r
    → normal_form (largest old.limits) old.names Side.AtMost (objective_with o (g.value -ℤ pos 1)) (added (top_of old.limits) (state_of old before) (before ++ g ∷ [])) r
demand-moved old m named kept before g o r h = grind (arith, same-state, named.forms, named.names, named.next, named.concluded, m.limits, g.value, old.names, kept.limits)

pub demands-from : (old m : Running) → HasNamed [] old m → IsProper old → Keeps old m → (z : ℤ) (result : Result Unit Fault) (new : Running) → Demands m z result new → Demands old z result new
demands-from old m named proper kept z (Ok u) new h = λ before g o best is has.
    let k = h before g o (subst (λ (b : Option ℤ). IsBest before b) (sym named.best) best) is (kept.objective ∙ has) in
    (k.0, demand-moved old m named kept before g o (Ok (state_of new (before ++ g ∷ []))) k.1)
demands-from old m named proper kept z (Err e) new (inl memory) = inl memory
demands-from old m named proper kept z (Err e) new (inr h) = inr (λ before g o is has. demand-moved old m named kept before g o (Err e) (h before g o is (kept.objective ∙ has)))

-- the form of an objective
pub form-of : (limit : ℕ) (names : List (List ℕ)) (objective : Option (List Term)) (side : Side) (degree : ℤ) (form : Form) → HasObjective limit names objective side degree (Ok form) → (o : List Term) → objective ≡ Some o
    → Fits limit (objective_with o degree) × IsSideOf names side (objective_with o degree) form
form-of limit names objective side degree form made o has = grind (arith, same_Some, ok-same)

pub demands-ok : (old new : Running) (z : ℤ) (form : Form) (result : Result Unit Fault) → HasObjective (largest old.limits) old.names (problem_of old).objective Side.AtMost (z -ℤ pos 1) (Ok form) → Logs old z form result new → Demands old z result new
demands-ok old new z form (Ok u) made h = λ before g o best value has. grind (arith, form-of, h)
demands-ok old new z form (Err e) made (inl memory) = inl memory
demands-ok old new z form (Err e) made (inr h) = inr (λ before g o value has. grind (arith, form-of, h))
