-- What the `rup` machine reads, and what holds of its states.
use Rattle.pb_proof.proofs.Common.{ℕ, ◌↔◌, ◌∙◌, ◌∷◌, ◌≡◌, sym, On, End, Go, ◌⋅◌, Part, ◌&&◌, ◌+◌, ◌≤◌, Bool, Item, ◌++◌, [], List, None, refl, Some}
use Rattle.pb_proof.proofs.Common.{ap, reads_grammar, refuse_or_end, ReadsStatement, rup_automaton, rup_transition, flushed-units, admits_before, rup_in_number}
use Rattle.pb_proof.proofs.Common.{true, rup_last, rup_over, RupState, sum_last, Relation, accepted, is_large, is_digit, eqb-true, SumEvent, SumState, reported}
use Rattle.pb_proof.proofs.Common.{sums, Next, Give, Tail, false, subst, arith, rules, Blank, Keeps, Walks, never, grown, final, Option, Linear, allows, Spells}
use Rattle.pb_proof.proofs.Common.{none_yet, is_blank, Language, RupPhase, Refuse, RupAction, linear_of, rup_first, sum_first, SpellsRup, cond_both, ended-last}
use Rattle.pb_proof.proofs.Common.{Letter, Inside, Admits, IsTrue, nat_eq, Blanks0, Blanks1, rup_act, IsAlive, refuses, IsState, rup_asks, rup_done, RupHolds}
use Rattle.pb_proof.proofs.Common.{ends_walk, rup_midway, reads_after, walks_more, walks_then, blank_each, rup_finish, AcceptsItems, IsRupInOrder, SpellsLinear}
use Rattle.pb_proof.proofs.Common.{refuse_or_go, false_from_ne_true, continues-midway, midway-not-done, reads_something, SumPhase as Phase, SumAction as Action}
use Rattle.pb_lines.proofs.lemmas.Ends.{blanks1_lead, closing_feeds, feed_reads, first_blank, further_blank, blank_more, feed_after_blanks, gapped}
use Rattle.pb_sums.specs.{declared.linear.Term.Term, engine.State.over, engine.State.units}
use Rattle.pb_sums.specs.engine.Machine.{Work, Outcome, act, flushed, transition, kind, letter_at, is_numeric}
use Rattle.pb_text.proofs.lemmas.machine.Living.{before}

-- what the sum machine reads
pub given_walks : (o : Option Linear) (t : List Letter) (inner new : SumState) (e : SumEvent) → ReadsStatement sums inner t e new
    → Walks rup_automaton (record { phase = Inside; sums = inner; linear = o }) t (record { phase = Tail; sums = new; linear = Some (linear_of e) })
given_walks o [] inner new e r = absurd r
given_walks o (l ∷ []) inner new e (g, n) = grind arith
given_walks o (l ∷ k ∷ t) inner new e (mid, g, i, n, r) =
    (record { phase = Inside; sums = mid; linear = o }, ap (rup_over (record { phase = Inside; sums = inner; linear = o })) g, refl, n, given_walks o (k ∷ t) mid new e r)

module _ (limit top : ℕ) where
  abbrev pub SumPrefix : SumState → Language
  SumPrefix inner = λ p. Walks sums (sum_first limit) p inner

  abbrev pub Whole : Linear → RupState → Language
  Whole c after = λ t. SpellsRup limit top c t × (after ≡ rup_last limit)

  -- What has been read, by phase.
  abbrev pub prefix : RupState → RupPhase → Language
  prefix s RupPhase.Start = λ p. (p ≡ []) × (s.sums ≡ sum_first limit) × (s.linear ≡ None)
  prefix s RupPhase.Gap = λ p. Blanks1 p × (s.sums ≡ sum_first limit) × (s.linear ≡ None)
  prefix s Inside = λ p. (s.linear ≡ None) × (Blanks1 ⋅ SumPrefix s.sums) p
  prefix s Tail = λ p. (s.sums ≡ sum_last limit)
      × ((c : Linear) × (s.linear ≡ Some c) × (c.relation ≡ Relation.AtLeast) × (Blanks1 ⋅ SpellsLinear Blank limit c ⋅ Blanks0) p)
  prefix s RupPhase.Done = λ p. ⊥

  abbrev pub Prefix : RupState → Language
  Prefix s = prefix s s.phase

  module _ (s : RupState) (l : Letter) (p : List Letter) where
    abbrev Leaves : Next RupState Linear → Type 0
    Leaves x = On rup_automaton Prefix Whole x l (p ++ l ∷ [])

    abbrev After : RupAction → Type 0
    After m = Leaves (rup_act s l.byte m)

    allowed : (r : Relation) → IsTrue (allows Part.AtLeast r) → r ≡ Relation.AtLeast
    allowed r h = grind (arith, never)

    spelled : (e : SumEvent) → (Blanks1 ⋅ Spells Blank limit Part.AtLeast e) (p ++ l ∷ [])
        → ((linear_of e).relation ≡ Relation.AtLeast) × (Blanks1 ⋅ SpellsLinear Blank limit (linear_of e) ⋅ Blanks0) (p ++ l ∷ [])
    spelled (SumEvent.Sum terms) (a, b, e, h, k) = never false k.0 refl
    spelled (SumEvent.Linear c) (a, b, e, h, k) = search (rules, allowed, gapped)

    given : s.linear ≡ None → (Blanks1 ⋅ SumPrefix s.sums) p → (x : Next SumState SumEvent) → sums.step s.sums l.byte ≡ x → Leaves (rup_over s x)
    given n h (Go inner) e = search (rules, grown, walks_more, continues-midway)
    given n h (End e new) i = λ w f.
        let (a, b, j, g, r) = h in
        let k : Spells Blank limit Part.AtLeast e (b ++ l ∷ []) × (new ≡ sum_last limit) =
        (reads_grammar Blank Part.AtLeast limit (b ++ l ∷ []) e new).0 (ends_walk sums b l (sum_first limit) s.sums new e r i f) in
        let t : (Blanks1 ⋅ Spells Blank limit Part.AtLeast e) (p ++ l ∷ []) = grown Blanks1 (λ q. q ≡ b) (Spells Blank limit Part.AtLeast e) p l (λ q z. subst (λ x. Spells Blank limit Part.AtLeast e (x ++ l ∷ [])) (sym z) k.0) (a, b, j, g, refl) in
        (k.1, (linear_of e, refl, (spelled e t).0, (spelled e t).1))
    given n h Refuse i = tt

    in_tail : s.sums ≡ sum_last limit → (c : Linear) → s.linear ≡ Some c → c.relation ≡ Relation.AtLeast → (Blanks1 ⋅ SpellsLinear Blank limit c ⋅ Blanks0) p → After (rup_transition Tail l.byte)
    in_tail i c k r h = cond_both (is_blank l.byte) _ _ After
        (λ g w f. (i, (c, k, r, blank_more (Blanks1 ⋅ SpellsLinear Blank limit c) l p g f h)))
        (λ _. cond_both (nat_eq l.byte 10) _ _ After
        (λ g. ends g s.linear k)
        (λ _. tt))
      where
        ends : nat_eq l.byte 10 ≡ true → (o : Option Linear) → o ≡ Some c → Leaves (rup_finish s o)
        ends g None e = absurd (let f : ⊥ = cc in f)
        ends g (Some d) e = λ f.
            let same : d ≡ c = cc in
            let whole : SpellsRup limit top c (p ++ l ∷ []) =
            (r, feed_after_blanks (Blanks1 ⋅ SpellsLinear Blank limit c) l p (eqb-true l.byte 10 g) f h) in
            (subst (λ x. SpellsRup limit top x (p ++ l ∷ [])) (sym same) whole, rw i refl)

    sound : (q : RupPhase) → prefix s q p → After (rup_transition q l.byte)
    sound RupPhase.Start (e, i, n) = cond_both (is_blank l.byte) _ _ After (λ h w f. (first_blank l p h f e, i, n)) (λ h. tt)
    sound RupPhase.Gap (h, i, n) = cond_both (is_blank l.byte) _ _ After (λ k w f. (further_blank l p k f h, i, n))
        (λ k. given n (none_yet Blanks1 (SumPrefix s.sums) p i h) (sums.step s.sums l.byte) refl)
    sound Inside h = given h.0 h.1 (sums.step s.sums l.byte) refl
    sound Tail h = in_tail h.0 h.1.0 h.1.1 h.1.2 h.1.3
    sound RupPhase.Done h = absurd h

  pub keeps : Keeps rup_automaton Prefix Whole
  keeps s l p f = sound s l p s.phase f

  -- The converse: each part of a text leads on.
  abbrev in_phase : RupPhase → RupState
  in_phase p = record { phase = p; sums = sum_first limit; linear = None }

  abbrev following : SumEvent → SumState → RupState
  following e inner = record { phase = Tail; sums = inner; linear = Some (linear_of e) }

  -- no blank begins a constraint
  gap_gives : (l : Letter) → (sums.step (sum_first limit) l.byte ≡ Refuse → ⊥) → rup_transition RupPhase.Gap l.byte ≡ Give
  gap_gives l h = grind (arith, false_from_ne_true, blank_each)

  linear_walks : (t : List Letter) (new : SumState) (e : SumEvent) → ReadsStatement sums (sum_first limit) t e new → Walks rup_automaton (in_phase RupPhase.Gap) t (following e new)
  linear_walks [] new e r = absurd r
  linear_walks (l ∷ []) new e (g, n) = grind (arith, gap_gives, refuse_or_end)
  linear_walks (l ∷ c ∷ t) new e (mid, g, i, n, r) =
      let k = gap_gives l (λ h. refuse_or_go mid (sym h ∙ g)) in
      (record { phase = Inside; sums = mid; linear = None }, ap (rup_act (in_phase RupPhase.Gap) l.byte) k ∙ ap (rup_over (in_phase RupPhase.Gap)) g, refl, n, given_walks None (c ∷ t) mid new e r)

  pub rup_each : (t : List Letter) (c : Linear) → SpellsRup limit top c t → ReadsStatement rup_automaton (rup_first limit) t c (rup_last limit)
  rup_each t c (r, (ab, f, e, (a, b, g, h, k), i)) =
      let q : ReadsStatement sums (sum_first limit) b (SumEvent.Linear c) (sum_last limit) =
      (reads_grammar Blank Part.AtLeast limit b (SumEvent.Linear c) (sum_last limit)).1 ((grind (arith, r), k), refl) in
      let tail : RupState = following (SumEvent.Linear c) (sum_last limit) in
      let w : Walks rup_automaton (rup_first limit) (a ++ b) tail =
      walks_then rup_automaton a b (rup_first limit) (in_phase RupPhase.Gap) tail
      (blanks1_lead rup_automaton (in_phase RupPhase.Start) (in_phase RupPhase.Gap) (grind arith) a h) (linear_walks b (sum_last limit) (SumEvent.Linear c) q) in
      subst (λ x. ReadsStatement rup_automaton (rup_first limit) x c (rup_last limit)) (ap (λ x. x ++ f) (sym g) ∙ sym e)
      (reads_after rup_automaton (a ++ b) f (rup_first limit) tail (rup_last limit) c w
      (feed_reads rup_automaton tail tail (rup_last limit) c (closing_feeds rup_automaton tail (rup_last limit) c (λ b h. rw h refl) refl refl refl) f i))

  -- What a new machine reads is a constraint, and then it has ended.
  pub rup_reads : (t : List Letter) (c : Linear) (after : RupState) → ReadsStatement rup_automaton (rup_first limit) t c after ↔ (SpellsRup limit top c t × (after ≡ rup_last limit))
  rup_reads t c after = (
    λ r. reported rup_automaton Prefix Whole keeps t (rup_first limit) [] c after r (refl, refl, refl),
    λ h. subst (λ x. ReadsStatement rup_automaton (rup_first limit) t c x) (sym h.1) (rup_each t c h.0),
  )

-- What holds of each state that the `rup` machine can be in.

-- The constraint that the sum machine gives has at most as many units as that machine had.
acted-terms : (ys xs : List Term) (name : List ℕ) (m : Action) (e : SumEvent) (w : Work) → act ys xs name m ≡ End e w → (linear_of e).terms ≡ ys
acted-terms ys xs name m e w h = grind arith

over-ends : (s next : SumState) (e : SumEvent) (n : Outcome) → over s n ≡ End e next → (w : Work) × (n ≡ End e w)
over-ends s next e n h = grind arith

pub ended_units : (s next : SumState) (b : ℕ) (e : SumEvent) → sums.step s b ≡ End e next → units (linear_of e).terms ≤ sums.spent s
ended_units s next b e h =
    let p = s.work.phase in
    let m : Action = transition s.part s.limit p (kind s.spaces (letter_at (is_numeric p) b)) in
    let k = over-ends s next e (act (flushed p s.work.terms s.work.name) s.work.terms s.work.name m) h in
    let t : (linear_of e).terms ≡ flushed p s.work.terms s.work.name = acted-terms (flushed p s.work.terms s.work.name) s.work.terms s.work.name m e k.0 k.1 in
    rw t (omega (arith, flushed-units p s.work.terms s.work.name))

pub ended_empty : (s next : SumState) (b : ℕ) (e : SumEvent) → sums.step s b ≡ End e next → sums.spent next ≡ 0
ended_empty s next b e h = ap sums.spent (ended-last s next b e h)

-- what holds after a byte
record Continues (s next : RupState) : Type 0 where
  pub begins : rup_midway next.phase ≡ true
  pub grows : IsRupInOrder s → rup_automaton.spent next ≤ rup_automaton.spent s + 1

abbrev Stepped : RupState → Next RupState Linear → Type 0
Stepped s (Go next) = Continues s next
Stepped s (End e next) = IsRupInOrder s → (rup_done next.phase ≡ true) × (rup_automaton.spent next ≡ 0)
Stepped s Refuse = Unit {0}

-- what holds of a move from a phase
abbrev OnAction : RupState → RupPhase → RupAction → Type 0
OnAction s p (RupAction.To q) = (rup_midway q ≡ true) × (RupHolds s p → RupHolds s q)
OnAction s p Give = RupHolds s p → (s.linear ≡ None) × (rup_in_number s p ≡ sums.in_number s.sums)
OnAction s p RupAction.Finish = RupHolds s p → sums.spent s.sums ≡ 0
OnAction s p RupAction.Stop = Unit {0}

on_transition : (s : RupState) (p : RupPhase) (b : ℕ) → OnAction s p (rup_transition p b)
on_transition s p b = grind (arith, nat_eq)

known : (s : RupState) (b : ℕ) (m : RupAction) → rup_transition s.phase b ≡ m → OnAction s s.phase m
known s b m e = subst (OnAction s s.phase) e (on_transition s s.phase b)

on_given : (s : RupState) (b : ℕ) (n : Next SumState SumEvent) → sums.step s.sums b ≡ n → Stepped s (rup_over s n)
on_given s b (Go inner) e = record { begins = refl; grows = λ h. omega (arith, h.state.grows b inner e) }
on_given s b (End x inner) e = record { begins = refl; grows = λ h. rw (ended_empty s.sums inner b x e) (omega (arith, ended_units s.sums inner b x e)) }
on_given s b Refuse e = tt

on_act : (s : RupState) (b : ℕ) (m : RupAction) → OnAction s s.phase m → Stepped s (rup_act s b m)
on_act s b m k = grind (arith, on_given)

steps : (s : RupState) (b : ℕ) → Stepped s (rup_automaton.step s b)
steps s b = on_act s b (rup_transition s.phase b) (on_transition s s.phase b)

continues : (s next : RupState) (b : ℕ) → rup_automaton.step s b ≡ Go next → Continues s next
continues s next b e = subst (Stepped s) e (steps s b)

-- after each byte that is taken the line has begun
pub rup_begins : (s next : RupState) (b : ℕ) → rup_automaton.step s b ≡ Go next → rup_automaton.begun next ≡ true
rup_begins s next b e = (continues s next b e).begins

-- Each state that has not ended can end.
finishing : (s : RupState) (c : Linear) → s.phase ≡ Tail → s.linear ≡ Some c → IsAlive rup_automaton s
finishing s c p e =
    final rup_automaton s (record s { phase = RupPhase.Done; linear = None }) 10 c (ap (λ x. rup_act s 10 (rup_transition x 10)) p ∙ ap (rup_finish s) e) [] refl

inside_alive : (s : RupState) → s.phase ≡ Inside → sums.done s.sums ≡ false → IsAlive rup_automaton s
inside_alive s p d =
    let (text, e, last, r) = reads_something s.sums.spaces s.sums.part s.sums.limit s.sums.work d in
    let tail = finishing (record { phase = Tail; sums = last; linear = Some (linear_of e) }) (linear_of e) refl refl in
    subst (IsAlive rup_automaton) (sym (same s p)) (record {
      text = text ++ tail.text;
      event = tail.event;
      after = tail.after;
      reads = reads_after rup_automaton text tail.text (record s { phase = Inside }) (record { phase = Tail; sums = last; linear = Some (linear_of e) }) tail.after tail.event
          (given_walks s.linear text s.sums last e r) tail.reads;
      rest = tail.rest;
      accepts = tail.accepts;
    })
  where
    same : (s : RupState) → s.phase ≡ Inside → s ≡ record s { phase = Inside }
    same s p = rw p refl

-- after blanks, with `>`
gap_alive : (s : RupState) → s.phase ≡ RupPhase.Gap → s.sums ≡ sum_first s.sums.limit → IsAlive rup_automaton s
gap_alive s p i =
    let mid : RupState = record s { phase = Inside; sums = record { spaces = s.sums.spaces; part = s.sums.part; limit = s.sums.limit; work = record { terms = []; name = []; phase = Phase.Greater } } } in
    before rup_automaton s mid 62 (ap (λ x. rup_act s 62 (rup_transition x 62)) p ∙ stepped s i) refl (inside_alive mid refl refl)
  where
    stepped : (s : RupState) → s.sums ≡ sum_first s.sums.limit → rup_over s (sums.step s.sums 62) ≡ Go (record s { phase = Inside; sums = record { spaces = s.sums.spaces; part = s.sums.part; limit = s.sums.limit; work = record { terms = []; name = []; phase = Phase.Greater } } })
    stepped s i = rw i refl

start_alive : (s : RupState) → s.phase ≡ RupPhase.Start → s.sums ≡ sum_first s.sums.limit → IsAlive rup_automaton s
start_alive s p i =
    let mid : RupState = record s { phase = RupPhase.Gap } in
    before rup_automaton s mid 32 (ap (λ x. rup_act s 32 (rup_transition x 32)) p) refl (gap_alive mid refl i)

alive : (s : RupState) (p : RupPhase) → s.phase ≡ p → RupHolds s p → rup_done p ≡ false → IsAlive rup_automaton s
alive s p e h d = grind (arith, start_alive, gap_alive, inside_alive, finishing, never)

live : (s : RupState) → IsRupInOrder s → (d : Bool) → rup_done s.phase ≡ d → (items : List (Item Linear)) × AcceptsItems rup_automaton s items
live s h true d = ([], d)
live s h false d = accepted rup_automaton s (alive s s.phase refl h.holds d)

pub rup_is_state : (s : RupState) → IsRupInOrder s → IsState rup_automaton s
rup_is_state s h = record {
  live = live s h (rup_done s.phase) refl;
  ends = λ d b. grind arith;
  owes = λ b next e. grind (arith, next.phase, (continues s next b e).begins);
  stays = λ i b next e. (continues s next b e).begins;
  finishes = λ b c next e. grind (arith, never, next.phase, (subst (Stepped s) e (steps s b) h).0);
  plain = λ o. grind arith;
  grows = λ b next e. (continues s next b e).grows h;
  bounds = omega (arith, h.state.bounds);
  empties = λ o. grind (arith, never, s.phase, h.holds, o);
}

-- What holds of the machine after a byte.
pub give_order : (s : RupState) → IsRupInOrder s → (b : ℕ) (inner : SumState) → rup_transition s.phase b ≡ Give → sums.step s.sums b ≡ Go inner → IsState sums inner → IsRupInOrder (record s { phase = Inside; sums = inner })
give_order s h b inner e g state = grind (arith, known, h.holds, midway-not-done, inner.work.phase, continues-midway, s.sums)

pub tail_order : (s : RupState) (b : ℕ) (e : SumEvent) (inner : SumState) → sums.step s.sums b ≡ End e inner → IsState sums inner → IsRupInOrder (record { phase = Tail; sums = inner; linear = Some (linear_of e) })
tail_order s b e inner g state = record { holds = ((linear_of e, refl), ended_empty s.sums inner b e g); state = state }

module _ (s : RupState) (h : IsRupInOrder s) (b : ℕ) (planned : rup_transition s.phase b ≡ Give) where
  pub give_refused : sums.step s.sums b ≡ Refuse → (rup_automaton.step s b ≡ Refuse) × (is_large rup_automaton s b ≡ is_large sums s.sums b)
  give_refused stops = (ap (rup_act s b) planned ∙ ap (rup_over s) stops, ap (λ (x : Bool). x && is_digit b) (known s b Give planned h.holds).1)

  by_step : (n : Next SumState SumEvent) → sums.step s.sums b ≡ n → Admits sums s.sums b → Admits rup_automaton s b
  by_step (Go inner) e a =
      admits_before rup_automaton s (record s { phase = Inside; sums = inner }) b (ap (rup_act s b) planned ∙ ap (rup_over s) e) refl
      (inside_alive (record s { phase = Inside; sums = inner }) refl (midway-not-done inner.work.phase (continues-midway s.sums inner b e)))
  by_step (End x inner) e a =
      admits_before rup_automaton s (record { phase = Tail; sums = inner; linear = Some (linear_of x) }) b (ap (rup_act s b) planned ∙ ap (rup_over s) e) refl
      (finishing (record { phase = Tail; sums = inner; linear = Some (linear_of x) }) (linear_of x) refl refl)
  by_step Refuse e a = absurd (refuses sums s.sums s.sums b e a.0 a.1 (a.2, a.3))

  pub give_admits : IsTrue (sums.asks s.sums b) → Admits sums s.sums b → IsTrue (rup_automaton.asks s b) × Admits rup_automaton s b
  give_admits asking a = (subst (λ (m : RupAction). IsTrue (rup_asks s b m)) (sym planned) asking, by_step (sums.step s.sums b) refl a)
