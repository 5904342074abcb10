-- Each state that a machine of instances can be in accepts some text; and what holds for each.
use Rattle.pb_opb.proofs.Common.{Part, Spaces, ℕ, ◌+◌, ◌-◌, ◌<◌, ◌≡◌, [], ap, arith, Bool, cond, false, le-leb, length, List, nat_eq, refl, subst, suc, sym}
use Rattle.pb_opb.proofs.Common.{true, zero, slice_index, eq-eqb, ne_eqb, reads_something, SumEvent, sums, SumState, accepted, before, final, IsAlive, End}
use Rattle.pb_opb.proofs.Common.{AcceptsItems, ReadsStatement, Item, Letter, OpbEvent, Stop, To, Field, Constraints, Variables, Phase, count, transition, Go}
use Rattle.pb_opb.proofs.Common.{word_of, Holds, IsIdle, IsInOrder, PhaseFits, act, after, between, giving, is_done, objectives, opb, OpbState, remaining_after}
use Rattle.pb_opb.proofs.Common.{statement_of, ◌≤◌, length-append, IsState, Next, Refuse, Action, Give, Keep, is_in_number, is_within, over, phase_owing}
use Rattle.pb_opb.proofs.lemmas.machine.Stands.{Gives, gives_objective, gives_constraint, within_reads, stands}
use Rattle.pb_sums.specs.declared.phase.Phase as sum_phase

-- the machine of sums, if it is not done, can read on to an event
sums_end : (inner : SumState) → sums.done inner ≡ false → (text : List Letter) × (event : SumEvent) × (last : SumState) × ReadsStatement sums inner text event last
sums_end inner h = reads_something inner.spaces inner.part inner.limit inner.work h

-- after any statement the constraints that are still to come can be read
pub owed_read : (s : OpbState) (objective_allowed : Bool) (remaining : ℕ) → (items : List (Item OpbEvent)) × AcceptsItems opb (between s objective_allowed remaining) items
owed_read s objective_allowed zero = ([], refl)
owed_read s objective_allowed (suc n) =
    let mid = giving (between s objective_allowed (suc n)) Phase.Constraint (record { spaces = Spaces.White; part = Part.Linear; limit = s.limit; work = record { terms = []; name = []; phase = sum_phase.TheVariants.Greater } }) in
    let r = sums_end mid.sums refl in
    let more = owed_read s false n in
    let less : suc n - 1 ≡ n = omega arith in
    accepted opb (between s objective_allowed (suc n)) (before opb (between s objective_allowed (suc n)) mid 62 refl refl (record {
      text = r.0;
      event = statement_of r.1;
      after = after (between s objective_allowed (suc n)) Phase.Constraint;
      reads = within_reads (between s objective_allowed (suc n)) Phase.Constraint gives_constraint r.0 mid.sums r.1 r.2 r.3;
      rest = more.0;
      accepts = subst (λ (k : ℕ). AcceptsItems opb (between s false k) more.0) (sym less) more.1;
    }))

-- a state in which bytes are given to the machine of sums is alive
pub giving_alive : (s : OpbState) (p : Phase) → Gives p → (inner : SumState) → sums.done inner ≡ false → IsAlive opb (giving s p inner)
giving_alive s p g inner h =
    let r = sums_end inner h in
    let more = owed_read s false (remaining_after p s.remaining) in
    record { text = r.0; event = statement_of r.1; after = after s p; reads = within_reads s p g r.0 inner r.1 r.2 r.3; rest = more.0; accepts = more.1 }

module _ (limit top : ℕ) where
  -- a state of the header, or one with no stored byte and with the machine of sums at its start
  abbrev pub idle : ℕ → ℕ → Phase → OpbState
  idle variables remaining p = stands limit top variables remaining p []

  zero_counts : (f : Field) → count top f 0 48 ≡ To (Phase.Count f 0)
  zero_counts f = ap (λ (b : Bool). cond b (To (Phase.Count f 0)) Stop) (le-leb 0 top (omega arith))

  -- the next byte of a word continues it, and the last one ends it
  spelled : (f : Field) (k : ℕ) (is_last : Bool) → nat_eq (k + 1) (length (word_of f)) ≡ is_last
      → transition top (Phase.Word f k) (slice_index (word_of f) k) ≡ To (cond is_last (Phase.BeforeCount f) (Phase.Word f (k + 1)))
  spelled f k is_last e = rw (eq-eqb (slice_index (word_of f) k) (slice_index (word_of f) k) refl, e) refl

  module _ (variables remaining : ℕ) where
    abbrev at_phase : Phase → OpbState
    at_phase p = idle variables remaining p

    -- within a word, with this many bytes to come after the next one
    word_further : (f : Field) → IsAlive opb (at_phase (Phase.BeforeCount f)) → (left k : ℕ) → suc (k + left) ≡ length (word_of f) → IsAlive opb (at_phase (Phase.Word f k))
    word_further f whole zero k e =
        let s = at_phase (Phase.Word f k) in
        let b = slice_index (word_of f) k in
        before opb s (at_phase (Phase.BeforeCount f)) b (ap (act s b) (spelled f k true (eq-eqb (k + 1) (length (word_of f)) (omega (arith, e))))) refl whole
    word_further f whole (suc left) k e =
        let s = at_phase (Phase.Word f k) in
        let b = slice_index (word_of f) k in
        before opb s (at_phase (Phase.Word f (k + 1))) b (ap (act s b) (spelled f k false (ne_eqb (k + 1) (length (word_of f)) (λ h. omega (arith, e, h))))) refl
        (word_further f whole left (k + 1) (omega (arith, e)))

    -- before a word or a count, if what comes after it can be read
    count_follows : (f : Field) → IsAlive opb (at_phase (Phase.Count f 0)) → IsAlive opb (at_phase (Phase.BeforeCount f))
    count_follows f counted =
        let s = at_phase (Phase.BeforeCount f) in before opb s (at_phase (Phase.Count f 0)) 48 (ap (act s 48) (zero_counts f)) refl counted

    word_begun : (f : Field) (k : ℕ) → IsAlive opb (at_phase (Phase.BeforeCount f)) → k < length (word_of f) → IsAlive opb (at_phase (Phase.Word f k))
    word_begun f k whole h = word_further f whole (length (word_of f) - suc k) k (omega (arith, h))

    word_follows : (f : Field) → IsAlive opb (at_phase (Phase.BeforeCount f)) → IsAlive opb (at_phase (Phase.BeforeWord f))
    word_follows f whole =
        before opb (at_phase (Phase.BeforeWord f)) (at_phase (Phase.Word f 1)) 35 refl refl (word_begun f 1 whole (grind arith))

    constraints_counted : (n : ℕ) → IsAlive opb (at_phase (Phase.Count Constraints n))
    constraints_counted n =
        let s = at_phase (Phase.Count Constraints n) in
        let more = owed_read s true n in final opb s (between s true n) 10 (OpbEvent.Header variables n []) refl more.0 more.1

  module _ (variables remaining : ℕ) where
    abbrev in_phase : Phase → OpbState
    in_phase p = idle variables remaining p

    counted : (f : Field) (n : ℕ) → IsAlive opb (in_phase (Phase.Count f n))
    counted Constraints n = constraints_counted variables remaining n
    counted Variables n =
        before opb (in_phase (Phase.Count Variables n)) (idle n remaining (Phase.BeforeWord Constraints)) 32 refl refl
        (word_follows n remaining Constraints (count_follows n remaining Constraints (constraints_counted n remaining 0)))

    count_owed : (f : Field) → IsAlive opb (in_phase (Phase.BeforeCount f))
    count_owed f = count_follows variables remaining f (counted f 0)

    word_owed : (f : Field) → IsAlive opb (in_phase (Phase.BeforeWord f))
    word_owed f = word_follows variables remaining f (count_owed f)

    started : IsAlive opb (in_phase Phase.Start)
    started = before opb (in_phase Phase.Start) (in_phase (Phase.BeforeWord Variables)) 42 refl refl (word_owed Variables)

    -- an objective without terms
    objective_owed : (after_min : OpbState) → after_min ≡ giving (in_phase Phase.AfterMin) Phase.AfterMin (objectives limit) → IsAlive opb after_min
    objective_owed s e =
        let t = giving (in_phase Phase.AfterMin) Phase.AfterMin (objectives limit) in
        let more = owed_read t false remaining in
        subst (IsAlive opb) (sym e) (final opb t (between t false remaining) 59 (OpbEvent.Objective []) refl more.0 more.1)

    min_3 : IsAlive opb (in_phase (Phase.Min 3))
    min_3 = before opb (in_phase (Phase.Min 3)) (giving (in_phase Phase.AfterMin) Phase.AfterMin (objectives limit)) 58 refl refl (objective_owed _ refl)

    min_2 : IsAlive opb (in_phase (Phase.Min 2))
    min_2 = before opb (in_phase (Phase.Min 2)) (in_phase (Phase.Min 3)) 110 refl refl min_3

    min_begun : (k : ℕ) → 0 < k → k < 4 → IsAlive opb (in_phase (Phase.Min k))
    min_begun (suc zero) h i = before opb (in_phase (Phase.Min 1)) (in_phase (Phase.Min 2)) 105 refl refl min_2
    min_begun (suc (suc zero)) h i = min_2
    min_begun (suc (suc (suc zero))) h i = min_3
    min_begun _ h i = absurd (omega arith)

-- the state, if no byte is stored and the machine of sums is at its start
is_idle : (s : OpbState) (p : Phase) → s.phase ≡ p → IsIdle s → s ≡ idle s.limit s.top s.variables s.remaining p
is_idle s p e (t, i) = rw (e, t, i) refl

idle_accepts : (s : OpbState) (p : Phase) → s.phase ≡ p → IsIdle s → IsAlive opb (idle s.limit s.top s.variables s.remaining p) → (items : List (Item OpbEvent)) × AcceptsItems opb s items
idle_accepts s p e h alive = accepted opb s (subst (IsAlive opb) (sym (is_idle s p e h)) alive)

gives_accepts : (s : OpbState) (p : Phase) → s.phase ≡ p → Gives p → sums.done s.sums ≡ false → (items : List (Item OpbEvent)) × AcceptsItems opb s items
gives_accepts s p e g h = accepted opb s (subst (λ (q : Phase). IsAlive opb (giving s q s.sums)) (sym e) (giving_alive s p g s.sums h))

-- between two statements, with a positive count of constraints
is_between : (s : OpbState) (objective_allowed : Bool) → s.phase ≡ Phase.Between objective_allowed → 0 < s.remaining → IsIdle s → s ≡ between s objective_allowed s.remaining
is_between s objective_allowed e o (t, i) = grind (arith, s.remaining)

-- what a state accepts, by what it has read last
by_phase : (s : OpbState) (p : Phase) → s.phase ≡ p → PhaseFits s.top p → Holds s p → (items : List (Item OpbEvent)) × AcceptsItems opb s items
by_phase s Phase.Start e fits h = idle_accepts s Phase.Start e h (started s.limit s.top s.variables s.remaining)
by_phase s (Phase.BeforeWord f) e fits h = idle_accepts s (Phase.BeforeWord f) e h (word_owed s.limit s.top s.variables s.remaining f)
by_phase s (Phase.Word f k) e fits h = idle_accepts s (Phase.Word f k) e h (word_begun s.limit s.top s.variables s.remaining f k (count_owed s.limit s.top s.variables s.remaining f) fits)
by_phase s (Phase.BeforeCount f) e fits h = idle_accepts s (Phase.BeforeCount f) e h (count_owed s.limit s.top s.variables s.remaining f)
by_phase s (Phase.Count f n) e fits h = idle_accepts s (Phase.Count f n) e h (counted s.limit s.top s.variables s.remaining f n)
by_phase s Phase.Tail e fits h =
    let more = owed_read s true s.remaining in
    accepted opb s (final opb s (between s true s.remaining) 10 (OpbEvent.Header s.variables s.remaining s.text) (ap (λ (p : Phase). act s 10 (transition s.top p 10)) e) more.0 more.1)
by_phase s (Phase.Between objective_allowed) e fits h =
    let more = owed_read s objective_allowed s.remaining in
    (more.0, subst (λ (t : OpbState). AcceptsItems opb t more.0) (sym (is_between s objective_allowed e h.0 h.1)) more.1)
by_phase s (Phase.Comment objective_allowed) e fits h =
    let more = owed_read s objective_allowed s.remaining in
    accepted opb s (final opb s (between s objective_allowed s.remaining) 10 (OpbEvent.Comment s.text) (ap (λ (p : Phase). act s 10 (transition s.top p 10)) e) more.0 more.1)
by_phase s (Phase.Min k) e fits h = idle_accepts s (Phase.Min k) e h.1 (min_begun s.limit s.top s.variables s.remaining k fits.0 fits.1)
by_phase s Phase.AfterMin e fits h = accepted opb s (objective_owed s.limit s.top s.variables s.remaining s (rw (e, h.1, h.2) refl))
by_phase s Phase.Objective e fits h = gives_accepts s Phase.Objective e gives_objective h.2
by_phase s Phase.Constraint e fits h = gives_accepts s Phase.Constraint e gives_constraint h.2
by_phase s Phase.Done e fits h = ([], ap is_done e)

-- each state in order accepts something
pub live : (s : OpbState) → IsInOrder s → (items : List (Item OpbEvent)) × AcceptsItems opb s items
live s h = by_phase s s.phase refl h.fits h.holds

abbrev N : Type 0
N = Next OpbState OpbEvent

-- P holds for the next state if the machine continues, and Q if a statement has ended
abbrev On : (OpbState → Type 0) → (OpbState → Type 0) → N → Type 0
On P Q (Go s) = P s
On P Q (End e s) = Q s
On P Q Refuse = Unit {0}

-- the next phase is not the last one, and a statement that has begun has not ended
abbrev GoesOn : Phase → Phase → Type 0
GoesOn p q = (is_done q ≡ false) × (is_within p ≡ true → is_within q ≡ true)

abbrev OnAction : Phase → Action → Type 0
OnAction p (To q) = GoesOn p q
OnAction p (Give q) = GoesOn p q
OnAction p (Keep b) = is_done p ≡ false
OnAction p _ = Unit {0}

-- the action of each phase
on_transition : (top : ℕ) (p : Phase) (b : ℕ) → OnAction p (transition top p b)
on_transition top p b = grind arith

-- what holds for the next state if the machine continues
record Continues (s next : OpbState) : Type 0 where
  pub owes : opb.done next ≡ false
  pub stays : opb.begun s ≡ true → opb.begun next ≡ true
  pub grows : opb.spent next ≤ opb.spent s + 1

owing : (objective_allowed : Bool) (n : ℕ) → is_within (phase_owing objective_allowed n) ≡ false
owing objective_allowed n = grind arith

sum_grows : (s : OpbState) (p : Phase) → IsState sums s.sums → GoesOn s.phase p → (b : ℕ) (n : Next SumState SumEvent) → sums.step s.sums b ≡ n → On (λ next. Continues s next) (λ next. opb.begun next ≡ false) (over s p n)
sum_grows s p state g b n e = grind (arith, owing)

on_act : (s : OpbState) → IsState sums s.sums → (b : ℕ) (m : Action) → OnAction s.phase m → On (λ next. Continues s next) (λ next. opb.begun next ≡ false) (act s b m)
on_act s state b m h = grind (arith, length-append, owing, sum_grows)

steps : (s : OpbState) → IsState sums s.sums → (b : ℕ) → On (λ next. Continues s next) (λ next. opb.begun next ≡ false) (opb.step s b)
steps s state b = on_act s state b (transition s.top s.phase b) (on_transition s.top s.phase b)

-- after the last constraint
pub done_stops : (top : ℕ) (p : Phase) (b : ℕ) → is_done p ≡ true → transition top p b ≡ Stop
done_stops top p b h = grind arith

-- between two statements no number is being read, and nothing is stored
pub outside : (s : OpbState) (p : Phase) → is_within p ≡ false → Holds s p → (is_in_number s p ≡ false) × IsIdle s
outside s p h i = grind arith

pub is_state : (s : OpbState) → IsInOrder s → IsState opb s
is_state s h = grind (arith, live, done_stops, s.top, s.phase, steps, h.state, outside, h.holds, h.state.bounds)
