-- What statements in order state, and that statements which are gathered one by one have the value that they state.
use Rattle.pb_opb.proofs.Common.{ℕ, ◌++◌, ◌+◌, ◌∙◌, ◌∷◌, ◌≡◌, ◌≤◌, [], ap, arith, Bool, cond, drop, length, List, nat_le, None, Option, refl, Some, suc, take}
use Rattle.pb_opb.proofs.Common.{take-append-drop, Linear, Term, events_of, comment_events, constraint_events, due, in_order, objective_events, OpbEvent}
use Rattle.pb_opb.proofs.Common.{Comment, Constraint, Objective, AreComments, comments_in, constraints_in, last_or, objectives_in, tails_in, variables_in}
use Rattle.pb_opb.proofs.Common.{append-nil, append_assoc, IsTrue, subst, sym, Spanned, Item, gathered, IsRead, IsWhole, MayHold, StopsIn, Instance}
use Rattle.pb_opb.proofs.Common.{counted_statements, ended_with, MayKeep, nothing, with, IsValueOf}
use Rattle.pb_opb.proofs.lemmas.instances.Spelled.{spelled, IsMain, AreMain, AreInLines}
use Rattle.{pb_opb.specs.declared.gather.InstanceSoFar.InstanceSoFar, pb_opb.specs.meaning.Gather.asks, std.proofs.lemmas.Bool.Decides.nat_tests}
use Rattle.pb_text.specs.declared.Stop.{Stop}
use Rattle.pb_opb.specs.declared.instance.Comment as comment
use Rattle.pb_text.proofs.lemmas.source.Unkept as stopped

pub spelled-events : (remaining : Bool) (events : List OpbEvent) → events_of (spelled remaining events) ≡ events
spelled-events remaining [] = refl
spelled-events remaining (e ∷ events) = ap (λ (x : List OpbEvent). e ∷ x) (spelled-events _ events)

-- Comments add nothing to the other parts of a value.
module _ {A : Type 0} (F : List OpbEvent → List A) (over : (t : List ℕ) (events : List OpbEvent) → F (Comment t ∷ events) ≡ F events)
    (same : (e : OpbEvent) (xs ys : List OpbEvent) → F xs ≡ F ys → F (e ∷ xs) ≡ F (e ∷ ys)) where
  past_comments : (cs : List comment.Comment) (events : List OpbEvent) → F (comment_events cs ++ events) ≡ F events
  past_comments [] events = refl
  past_comments (c ∷ cs) events = over c.text (comment_events cs ++ events) ∙ past_comments cs events

  past_order : (events : List OpbEvent) (n : ℕ) (cs : List comment.Comment) → F (in_order n cs events) ≡ F events
  past_order [] n cs = refl
  past_order (e ∷ events) n cs =
      let later : List comment.Comment = drop (due n cs) cs in
      past_comments (take (due n cs) cs) (e ∷ in_order (n + 1) later events)
      ∙ same e (in_order (n + 1) later events) events (past_order events (n + 1) later)

-- the same for an objective and constraints
module _ {A : Type 0} (F : List OpbEvent → List A) (none : F [] ≡ []) (over : (l : Linear) (events : List OpbEvent) → F (Constraint l ∷ events) ≡ F events) where
  none_in : (ls : List Linear) → F (constraint_events ls) ≡ []
  none_in [] = none
  none_in (l ∷ ls) = over l (constraint_events ls) ∙ none_in ls

  none_in_main : ((t : List Term) (events : List OpbEvent) → F (Objective t ∷ events) ≡ F events) → (o : Option (List Term)) (ls : List Linear) → F (objective_events o ++ constraint_events ls) ≡ []
  none_in_main past o ls = grind (arith, none_in)

main_objective : (o : Option (List Term)) (ls : List Linear) → last_or None (objectives_in (objective_events o ++ constraint_events ls)) ≡ o
main_objective None ls = ap (last_or None) (none_in objectives_in refl (λ l e. refl) ls)
main_objective (Some t) ls = ap (last_or (Some t)) (none_in objectives_in refl (λ l e. refl) ls)

all_constraints : (ls : List Linear) → constraints_in (constraint_events ls) ≡ ls
all_constraints [] = refl
all_constraints (l ∷ ls) = ap (λ (x : List Linear). l ∷ x) (all_constraints ls)

main_constraints : (o : Option (List Term)) (ls : List Linear) → constraints_in (objective_events o ++ constraint_events ls) ≡ ls
main_constraints o ls = grind (arith, all_constraints)

module _ (cs : List comment.Comment) (o : Option (List Term)) (ls : List Linear) where
  pub order_variables : (n : ℕ) → last_or n (variables_in (in_order 0 cs (objective_events o ++ constraint_events ls))) ≡ n
  order_variables n = ap (last_or n) (past_order variables_in (λ t e. refl) (λ e xs ys h. grind arith) (objective_events o ++ constraint_events ls) 0 cs ∙ none_in_main variables_in refl (λ l e. refl) (λ t e. refl) o ls)

  pub order_tail : (t : List ℕ) → last_or t (tails_in (in_order 0 cs (objective_events o ++ constraint_events ls))) ≡ t
  order_tail t = ap (last_or t) (past_order tails_in (λ t e. refl) (λ e xs ys h. grind arith) (objective_events o ++ constraint_events ls) 0 cs ∙ none_in_main tails_in refl (λ l e. refl) (λ t e. refl) o ls)

  pub order_objective : last_or None (objectives_in (in_order 0 cs (objective_events o ++ constraint_events ls))) ≡ o
  order_objective = ap (last_or None) (past_order objectives_in (λ t e. refl) (λ e xs ys h. grind arith) (objective_events o ++ constraint_events ls) 0 cs) ∙ main_objective o ls

  pub order_constraints : constraints_in (in_order 0 cs (objective_events o ++ constraint_events ls)) ≡ ls
  order_constraints = past_order constraints_in (λ t e. refl) (λ e xs ys h. grind arith) (objective_events o ++ constraint_events ls) 0 cs ∙ main_constraints o ls

-- Comments are read back, each with its number.
pub in_lines : (least all : ℕ) (cs : List comment.Comment) → AreComments least all cs → AreInLines cs
in_lines least all [] h = tt
in_lines least all (c ∷ cs) h = (h.2, in_lines c.before all cs h.3)

due_cons : (n : ℕ) (c : comment.Comment) (cs : List comment.Comment) → due n (c ∷ cs) ≡ cond (nat_le c.before n) (suc (due n cs)) 0
due_cons n c cs = grind arith

due_reported : (n all : ℕ) (cs : List comment.Comment) → AreComments n all cs → (events : List OpbEvent)
    → comments_in n (comment_events (take (due n cs) cs) ++ events) ≡ take (due n cs) cs ++ comments_in n events
due_reported n all [] h events = refl
due_reported n all (c ∷ cs) h events = rw (due_cons n c cs) (grind (arith, nat_tests, due_reported n all cs))

due_rest : (n all : ℕ) (cs : List comment.Comment) → AreComments n all cs → AreComments (n + 1) all (drop (due n cs) cs)
due_rest n all [] h = tt
due_rest n all (c ∷ cs) h = rw (due_cons n c cs) (grind (arith, nat_tests, due_rest n all cs))

no_comments : (n all : ℕ) (cs : List comment.Comment) → all ≤ n → AreComments n all cs → [] ≡ cs
no_comments n all [] e h = refl
no_comments n all (c ∷ cs) e h = absurd (omega arith)

first_counts : (e : OpbEvent) (events : List OpbEvent) (n : ℕ) → IsMain e → comments_in n (e ∷ events) ≡ comments_in (n + 1) events
first_counts e events n h = grind arith

pub order_comments : (events : List OpbEvent) → AreMain events → (n all : ℕ) (cs : List comment.Comment) → all ≤ n + length events → AreComments n all cs → comments_in n (in_order n cs events) ≡ cs
order_comments [] m n all cs e h = no_comments n all cs (omega arith) h
order_comments (x ∷ events) m n all cs e h =
    let later : List comment.Comment = drop (due n cs) cs in
    due_reported n all cs h (x ∷ in_order (n + 1) later events)
    ∙ (ap (λ (y : List comment.Comment). take (due n cs) cs ++ y)
    (first_counts x (in_order (n + 1) later events) n m.0 ∙ order_comments events m.1 (n + 1) all later (omega arith) (due_rest n all cs h))
    ∙ take-append-drop (due n cs) cs)

abbrev pub one_more : InstanceSoFar → OpbEvent → InstanceSoFar
one_more b e = record { instance = with b.ended b.instance e; ended = ended_with b.ended e }

-- what more statements add
pub record Adds (b : InstanceSoFar) (events : List OpbEvent) (v : Instance) : Type 0 where
  pub variables : v.variables ≡ last_or b.instance.variables (variables_in events)
  pub tail : v.tail ≡ last_or b.instance.tail (tails_in events)
  pub objective : v.objective ≡ last_or b.instance.objective (objectives_in events)
  pub comments : v.comments ≡ b.instance.comments ++ comments_in b.ended events
  pub constraints : v.constraints ≡ b.instance.constraints ++ constraints_in events

pub adds : (events : List OpbEvent) (b : InstanceSoFar) → Adds b events (gathered one_more b events).instance
adds [] b = record { variables = refl; tail = refl; objective = refl; comments = sym (append-nil b.instance.comments); constraints = sym (append-nil b.instance.constraints) }
adds (Comment text ∷ events) b = grind (arith, append_assoc, adds events (one_more b (Comment text)))
adds (Constraint linear ∷ events) b = grind (arith, append_assoc, adds events (one_more b (Constraint linear)))
adds (e ∷ events) b = grind (arith, adds events (one_more b e))

ended_after : (events : List OpbEvent) (b : InstanceSoFar) → (gathered one_more b events).ended ≡ b.ended + counted_statements events
ended_after [] b = omega arith
ended_after (e ∷ events) b = grind (arith, ended_after events (one_more b e))

value_of : (events : List OpbEvent) (b v : InstanceSoFar) → b.instance ≡ nothing → b.ended ≡ 0 → v ≡ gathered one_more b events → IsValueOf events v.instance
value_of events b v i n e = grind (arith, adds, v.instance)

module _ (format : List (Item OpbEvent) → Type 0) (longest : ℕ) (b : InstanceSoFar) (i : b.instance ≡ nothing) (n : b.ended ≡ 0) (used : List ℕ) where
  pub is_read : (m : Spanned InstanceSoFar) → IsWhole format longest one_more b used m → (let r : Spanned Instance = record { event = m.event.instance; first = m.first; past = m.past } in IsRead format longest IsValueOf used r)
  is_read m w = record {
    spans = w.spans;
    spelled = w.spelled;
    value = value_of (events_of w.spelled.items) b m.event i n w.value;
    first = w.first;
    past = w.past;
  }

  may_keep : (events : List OpbEvent) (x : OpbEvent) → MayHold one_more b (λ c e. asks c.ended e) events x → MayKeep events x
  may_keep events x h =
      let count : (gathered one_more b events).ended ≡ counted_statements events = let k = ended_after events b in omega (arith, k, n) in
      subst (λ (k : ℕ). IsTrue (asks k x)) count h

  pub stops_in : (may_ask : List ℕ → ℕ → Type 0) (seen : List ℕ) (s : Stop) → StopsIn format longest may_ask (MayHold one_more b (λ c e. asks c.ended e)) used seen s → StopsIn format longest may_ask MayKeep used seen s
  stops_in may_ask seen s w = stopped.stops_in format format (λ items h. h) (λ items h. h) longest may_ask may_ask (λ u c h. h) (MayHold one_more b (λ c e. asks c.ended e)) MayKeep may_keep used seen s w
