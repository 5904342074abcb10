-- The walk over the watches of a falsified literal.
use Rattle.pb_propagate.proofs.{Common.Database, Common.min, Common.passed_of, Common.sum, lemmas.clauses.Literals.Agree, lemmas.clauses.Literals.true-listed}
use Rattle.pb_propagate.proofs.Common.{ℕ, ◌++◌, ◌+◌, ◌-◌, ◌/◌, ◌<◌, ◌^◌, ◌∙◌, ◌∷◌, ◌≡◌, ◌≤◌, [], ap, arith, Bool, length, rules, length-append, List, refl}
use Rattle.pb_propagate.proofs.Common.{subst, sym, true, Option, Contains-push_cases, slice_get, slice_get_within, Some, NumberedLiteral, Clauses, Watch}
use Rattle.pb_propagate.proofs.Common.{Forces, AreLinked, list_at, watch_at, watch_lists, AreServed, AreWalked, Grows, HasTrue, HasVisited, index_after}
use Rattle.pb_propagate.proofs.Common.{IsRunning, KeepsWalked, literal_at, false_at, true_at, has, IsWithin, Progress, VisitsEach, both_ways, false, Advances}
use Rattle.pb_propagate.proofs.lemmas.{clauses.Literals.false-listed, engine.Advances.WalkIsAt, engine.Advances.size_at, engine.Advances.walk-next}
use Rattle.pb_propagate.proofs.lemmas.engine.{Advances.walk-pass, Advances.walk-start, Advances.walk-then, Literals.has-push_old, Literals.has-push_new}
use Rattle.pb_propagate.specs.{declared.clauses.visiting.Forced.Forced, declared.clauses.visiting.Visit.Visit, engine.clauses.Runs.IsServedTo}

pub grows-refl : (values : List (Option Bool)) → Grows values values
grows-refl values = record { met = λ x h. h; failed = λ x h. h }

pub grows-trans : (a b c : List (Option Bool)) → Grows a b → Grows b c → Grows a c
grows-trans a b c p q = record { met = λ x h. q.met x (p.met x h); failed = λ x h. q.failed x (p.failed x h) }

-- a conflict that was found is not none
pub never : {X : Type 0} → true ≡ false → X
never e = absurd (both_ways true e refl)

-- visits one after another
pub kept-then : (values values' : List (Option Bool)) (a b c : Clauses) → Grows values values' → KeepsWalked values a b → KeepsWalked values' b c → KeepsWalked values a c
kept-then values values' a b c more p q e live failed = grind (arith, more.failed)

-- a longer list
pub grows-listed : (values values' : List (Option Bool)) (list list' : List NumberedLiteral) → Agree values list → Agree values' list' → IsWithin list list' → Grows values values'
grows-listed values values' list list' a a' within = record {
  met = λ x h. true-listed values' list' x a' ∙ within (literal_at x) (sym (true-listed values list x a) ∙ h);
  failed = λ x h. false-listed values' list' x a' ∙ within _ (sym (false-listed values list x a) ∙ h);
}

-- a true literal stays true
pub true-grow : (old new : List (Option Bool)) (clauses : List (List ℕ)) (s : ℕ) → Grows old new → HasTrue old clauses s → HasTrue new clauses s
true-grow old new clauses s g met = (met.0, met.1, g.met met.0 met.2)

pub served-grow : (old new : List (Option Bool)) (clauses : List (List ℕ)) (ws : List Watch) (walked : List ℕ) (l index : ℕ) → Grows old new → AreServed old clauses ws walked l index → AreServed new clauses ws walked l index
served-grow old new clauses ws walked l index g s = grind (arith, g.failed, s.failed, s.now, true-grow, s.done, s.here)

pub walked-grow : (old new : List (Option Bool)) (clauses : List (List ℕ)) (ws : List Watch) (walked : List ℕ) → Grows old new → AreWalked old clauses ws walked → AreWalked new clauses ws walked
walked-grow old new clauses ws walked g s = grind (arith, g.failed, s.failed, true-grow, s.done)

pub running-grow : (c : Clauses) (old new : List (Option Bool)) → length new ≡ length old → Grows old new → IsRunning old c → IsRunning new c
running-grow c old new sizes g r = grind (arith, r.starts, r.stored, r.blocked, r.passed.sizes, r.passed.bounded, r.passed.each, g.failed, r.round, r.sizes)

-- a true literal of a visited clause
pub served-true : (values : List (Option Bool)) (clauses : List (List ℕ)) (ws : List Watch) (ls : List (List ℕ)) (walked : List ℕ) (l index e : ℕ) → AreLinked ws ls → slice_get (list_at ls l) index ≡ Some e → HasTrue values clauses (e / 2) → AreServed values clauses ws walked l index → AreServed values clauses ws walked l (index + 1)
served-true values clauses ws ls walked l index e linked item met s = grind (arith, linked.sits, item, met, s.failed, s.now, s.done, s.here)

-- at the end of the list
pub walked-end : (values : List (Option Bool)) (c : Clauses) (walked : List ℕ) (l index : ℕ) → AreLinked c.blocks.watches (watch_lists c.lists) → length (list_at (watch_lists c.lists) l) ≤ index → AreServed values c.blocks.literals c.blocks.watches walked l index → AreWalked values c.blocks.literals c.blocks.watches (walked ++ (l ∷ []))
walked-end values c walked l index linked end s = record {
  failed = λ x h. grind (arith, Contains-push_cases walked l x h, s.failed x, s.now);
  done = λ e live h.
      let w = watch_at c.blocks.watches e in
      grind (arith, live, Contains-push_cases walked l w.literal h, s.done e, s.here e, linked.sits e l w.spot, slice_get_within (list_at (watch_lists c.lists) l) w.spot e, end);
}

-- a walk in progress
pub record IsWalking (d : Database) (c0 c : Clauses) (l index : ℕ) (start now : Progress) : Type 0 where
  pub literals : c.blocks.literals ≡ c0.blocks.literals
  pub sizes : length c.lists ≡ length c0.lists
  pub running : IsRunning now.values c
  pub failed : false_at now.values l ≡ true
  pub within : index ≤ length (list_at (watch_lists c.lists) l)
  pub served : (walked : List ℕ) → AreServed start.values c0.blocks.literals c0.blocks.watches walked l 0 → AreServed now.values c.blocks.literals c.blocks.watches walked l index
  pub grows : Grows start.values now.values
  pub kept : KeepsWalked start.values c0 c
  pub found : VisitsEach start now
  pub advances : WalkIsAt d c0 c l index start now

pub walking-start : (d : Database) (c : Clauses) (l : ℕ) (start : Progress) → IsRunning start.values c → false_at start.values l ≡ true → IsWalking d c c l 0 start start
walking-start d c l start running failed = grind (arith, grows-refl, start.values, walk-start d c l start)

module _ {d : Database} {c0 c : Clauses} {l index : ℕ} {start now : Progress} (w : IsWalking d c0 c l index start now) where
  -- what a visit that propagates nothing leaves
  pub walking-next : (c' : Clauses) (r : Visit) (seen : ℕ) →
      HasVisited now.values c c' l index r → c'.blocks.literals ≡ c.blocks.literals → index < size_at c l → size_at c' l + index + 1 ≡ size_at c l + index_after index r →
      seen + sum (passed_of c) ≤ now.visits + 2 + sum (passed_of c') → (seen < 2 ^ 64 - 1 → now.visits + 1 ≤ seen) → now.visits ≤ seen →
      IsWalking d c0 c' l (index_after index r) start (record now { visits = seen })
  walking-next c' r seen v literals inside count covered counted rising =
      let found : VisitsEach start (record now { visits = seen }) = λ few. grind (arith, few, counted, w.found) in
      let within : index_after index r ≤ size_at c' l = omega (arith, inside, count) in
      let advances = walk-next d c0 c c' l index (index_after index r) seen inside within count covered rising w.advances in
      search (rules, within, advances, literals ∙ w.literals, v.lists ∙ w.sizes, v.running, w.failed, v.served, w.served, w.grows, kept-then, w.kept, v.kept, found)

  -- watches that are passed
  pub walking-pass : (j seen : ℕ) → index ≤ j → j ≤ size_at c l →
      seen ≤ now.visits + (j - index) → ((walked : List ℕ) → IsServedTo now.values c walked l index → IsServedTo now.values c walked l j) → now.visits ≤ seen →
      IsWalking d c0 c l j start (record now { visits = seen })
  walking-pass j seen after within few served rising =
      search (rules, w.literals, w.sizes, w.running, w.failed, w.served, w.grows, w.kept, w.found, walk-pass d c0 c l index j seen after within few rising w.advances)

  -- watches that are passed, and the one after them, which is read
  pub walking-met : (j seen : ℕ) → index ≤ j → j ≤ size_at c l → ((walked : List ℕ) → IsServedTo now.values c walked l index → IsServedTo now.values c walked l j) → now.visits ≤ seen → seen ≡ min (now.visits + (j - index + 1)) (2 ^ 64 - 1) →
      IsWalking d c0 c l j start (record now { visits = min (now.visits + (j - index)) (2 ^ 64 - 1) })
  walking-met j seen after within served rising is =
      walking-pass j (min (now.visits + (j - index)) (2 ^ 64 - 1)) after within (omega arith) served (omega (arith, rising, is))

  -- a visit, and the literal that it forces
  pub walking-forces : (c' : Clauses) (seen : ℕ) (f : Forced) (after : Progress) →
      HasVisited now.values c c' l index (Forces f) → c'.blocks.literals ≡ c.blocks.literals → index < size_at c l → seen + sum (passed_of c) ≤ now.visits + 2 + sum (passed_of c') →
      (seen < 2 ^ 64 - 1 → now.visits + 1 ≤ seen) → now.visits ≤ seen → Advances d 0 0 (record now { visits = seen }) after →
      after.list ≡ now.list ++ (literal_at f.code ∷ []) → Agree now.values now.list → Agree after.values after.list → IsWalking d c0 c' l (index + 1) start after
  walking-forces c' seen f after v literals inside covered counted rising puts listed agree agree' =
      let g = grows-listed now.values after.values now.list after.list agree agree' (λ k h. subst (λ xs. has xs k ≡ true) (sym listed) (has-push_old now.list (literal_at f.code) k h)) in
      let met : true_at after.values f.code ≡ true = true-listed after.values after.list f.code agree' ∙ ap (λ xs. has xs (literal_at f.code)) listed ∙ has-push_new now.list (literal_at f.code) in
      let met_now : HasTrue after.values c'.blocks.literals (v.found.2.0 / 2) = (f.code, v.found.2.2, met) in
      let found : VisitsEach start after = λ few. grind (arith, few, counted, w.found, puts.rising, listed, length-append) in
      let linked = v.running.stored.linked in
      let running = running-grow c' now.values after.values puts.values g v.running in
      let within : index + 1 ≤ size_at c' l = omega (arith, inside, v.found.0) in
      let advances = walk-then (walk-next d c0 c c' l index (index + 1) seen inside within (omega (arith, v.found.0)) covered rising w.advances) puts in
      search (rules, within, advances, literals ∙ w.literals, v.lists ∙ w.sizes, g.failed l w.failed, served-true, served-grow, v.served, w.served, grows-trans, kept-then, w.kept, v.kept)
