-- The value of an instance that was read meets the rules; and what the statements after its header state. Offered to
-- other crates.
use Rattle.pb_opb.proofs.Common.{ℕ, ◌+◌, ◌<◌, ◌∙◌, ◌∷◌, ◌≡◌, ◌≤◌, [], ap, arith, Bool, false, IsTrue, length, List, None, Option, refl, Some, subst, suc, sym}
use Rattle.pb_opb.proofs.Common.{true, zero, AreTerms, Linear, Term, White, Item, Letter, events_of, InstanceValues, IsOneHeader, OpbEvent, Comment, Constraint}
use Rattle.pb_opb.proofs.Common.{Header, Objective, Instance, IsBegun, IsTail, SpellsHeader, SpellsObjective, AreComments, AreLinears, comments_in}
use Rattle.pb_opb.proofs.Common.{constraints_in, is_one, IsInstanceValue, IsObjective, IsValueOf, last_or, objectives_in, tails_in, variables_in}
use Rattle.pb_sums.proofs.lemmas.values.Within.{sum-within, linear-within}
use Rattle.pb_opb.specs.declared.instance.Comment as comment
use Rattle.pb_opb.proofs.lemmas.instances.Counted.{IsEntry, IsCounted, counted}

objective-within : (limit : ℕ) (terms : List Term) (t : List Letter) → SpellsObjective limit terms t → AreTerms limit terms
objective-within limit terms t (p4, l4, e4, (p3, l3, e3, (p2, l2, e2, h, s), w), b) = sum-within White limit terms l2 s

-- the counts of a header are at most top
counts-within : (top n m : ℕ) (tail : List ℕ) (t : List Letter) → SpellsHeader top n m tail t → (n ≤ top) × (m ≤ top)
counts-within top n m tail t (q1, r1, f1, (q2, r2, f2, (q3, r3, f3, (q4, r4, f4, (q5, r5, f5, (q6, r6, f6, (q7, r7, f7, (rest), v), x6), x5), x4), k), x2), x1) = (v.0, k.0)

comments_fall : (low least all all' : ℕ) (cs : List comment.Comment) → AreComments least all cs → low ≤ least → all ≡ all' → AreComments low all' cs
comments_fall low least all all' [] k h e = tt
comments_fall low least all all' (c ∷ cs) k h e = subst (λ (a : ℕ). AreComments low a (c ∷ cs)) e (omega (arith, k.0), k.1, k.2, k.3)

module _ (limit : ℕ) where
  -- no objective, or one before this many constraints, if one may come
  abbrev Objectives : Bool → ℕ → List (Option (List Term)) → Type 0
  Objectives objective_allowed n [] = Unit {0}
  Objectives objective_allowed n (None ∷ rest) = ⊥
  Objectives objective_allowed n (Some terms ∷ []) = IsTrue objective_allowed × AreTerms limit terms × (0 < n)
  Objectives objective_allowed n (Some terms ∷ x ∷ rest) = ⊥

  -- statements after a header, of which n are constraints
  pub record WasReported (objective_allowed : Bool) (n : ℕ) (events : List OpbEvent) : Type 0 where
    pub variables : variables_in events ≡ []
    pub tails : tails_in events ≡ []
    pub count : length (constraints_in events) ≡ n
    constraints : AreLinears limit (constraints_in events)
    objectives : Objectives objective_allowed n (objectives_in events)
    comments : (k : ℕ) → AreComments k (k + (n + length (objectives_in events))) (comments_in k events)

  no_objective : (n : ℕ) (os : List (Option (List Term))) → Objectives false n os → os ≡ []
  no_objective n os h = grind arith

  reported-entry : (objective_allowed : Bool) (n : ℕ) (text : List Letter) (e : OpbEvent) (rest : List (Item OpbEvent))
      → ((m : Bool) (k : ℕ) → IsCounted limit m k rest → WasReported m k (events_of rest))
      → IsEntry limit objective_allowed n text (λ m k. IsCounted limit m k rest) e → WasReported objective_allowed (suc n) (e ∷ events_of rest)
  reported-entry objective_allowed n text (Header a b t) rest ih h = absurd h
  reported-entry objective_allowed n text (Comment t) rest ih h =
      let r : WasReported objective_allowed (suc n) (events_of rest) = ih objective_allowed (suc n) h.2 in
      record {
        variables = r.variables;
        tails = r.tails;
        count = r.count;
        constraints = r.constraints;
        objectives = r.objectives;
        comments = λ k. (omega arith, omega arith, h.0, r.comments k);
      }
  reported-entry objective_allowed n text (Objective t) rest ih h =
      let r : WasReported false (suc n) (events_of rest) = ih false (suc n) h.2 in
      let none : objectives_in (events_of rest) ≡ [] = no_objective (suc n) (objectives_in (events_of rest)) r.objectives in
      record {
        variables = r.variables;
        tails = r.tails;
        count = r.count;
        constraints = r.constraints;
        objectives = subst (λ (os : List (Option (List Term))). Objectives objective_allowed (suc n) (Some t ∷ os)) (sym none) (h.0, objective-within limit t text h.1, omega arith);
        comments = λ k. comments_fall k (k + 1) _ _ _ (r.comments (k + 1)) (omega arith) (omega arith);
      }
  reported-entry objective_allowed n text (Constraint l) rest ih h =
      let r : WasReported false n (events_of rest) = ih false n h.1 in
      record {
        variables = r.variables;
        tails = r.tails;
        count = ap suc r.count;
        constraints = (linear-within White limit l text h.0, r.constraints);
        objectives = subst (Objectives objective_allowed (suc n)) (sym (no_objective n (objectives_in (events_of rest)) r.objectives)) tt;
        comments = λ k. comments_fall k (k + 1) _ _ _ (r.comments (k + 1)) (omega arith) (omega arith);
      }

  pub reported : (objective_allowed : Bool) (n : ℕ) (items : List (Item OpbEvent)) → IsCounted limit objective_allowed n items → WasReported objective_allowed n (events_of items)
  reported objective_allowed zero [] h = record { variables = refl; tails = refl; count = refl; constraints = tt; objectives = tt; comments = λ k. tt }
  reported objective_allowed zero (i ∷ rest) h = absurd h
  reported objective_allowed (suc n) [] h = absurd h
  reported objective_allowed (suc n) (i ∷ rest) h = reported-entry objective_allowed n i.text i.event rest (λ m k b. reported m k rest b) h.1

  objective-value : (n : ℕ) (os : List (Option (List Term))) (cs : List Linear) → length cs ≡ n → Objectives true n os → IsObjective limit cs (last_or None os)
  objective-value n os cs e h = grind arith

  objectives-count : (n : ℕ) (os : List (Option (List Term))) → Objectives true n os → (length os ≡ is_one (last_or None os)) × (length os ≤ 1)
  objectives-count n os h = grind arith

begun : (limit top : ℕ) (i : Item OpbEvent) (rest : List (Item OpbEvent)) (e : OpbEvent) (v : Instance) → IsBegun limit top i rest e → IsValueOf (e ∷ events_of rest) v
    → IsInstanceValue limit top v × IsOneHeader (e ∷ events_of rest) v
begun limit top i rest (Header n m tail) v h k =
    let events : List OpbEvent = events_of rest in
    let r = reported limit true m rest (counted limit m rest h.3) in
    let c = counts-within top n m tail i.text h.2 in
    let os : List (Option (List Term)) = objectives_in events in
    let o = objectives-count limit m os r.objectives in
    let variables_is : v.variables ≡ n = k.variables ∙ ap (last_or n) r.variables in
    let tail_is : v.tail ≡ tail = k.tail ∙ ap (last_or tail) r.tails in
    let count_is : length v.constraints ≡ m = ap length k.constraints ∙ r.count in
    let one : is_one v.objective ≡ is_one (last_or None os) = ap is_one k.objective in
    let all : 0 + (m + length os) ≡ length v.constraints + is_one v.objective = omega (arith, count_is, one, o.0) in (
      record {
        variables = subst (λ (x : ℕ). x ≤ top) (sym variables_is) c.0;
        count = subst (λ (x : ℕ). x ≤ top) (sym count_is) c.1;
        tail = subst IsTail (sym tail_is) h.1;
        objective = subst (IsObjective limit v.constraints) (sym k.objective) (objective-value limit m os v.constraints count_is r.objectives);
        comments = subst (λ (a : ℕ). AreComments 0 a v.comments) all (subst (AreComments 0 (0 + (m + length os))) (sym k.comments) (r.comments 0));
        constraints = subst (AreLinears limit) (sym k.constraints) r.constraints;
      },
      record { following = events; header = rw (variables_is, count_is, tail_is) refl; no_other = r.variables; one_objective = o.1 },
    )
begun limit top i rest _ v h k = absurd h

pub instance_values : InstanceValues
instance_values limit top [] v h k = absurd h
instance_values limit top (i ∷ rest) v h k = begun limit top i rest i.event v h k
