-- What holds of each state of a machine, and what its first state accepts. Offered to other crates.
use Rattle.pb_sums.proofs.Common.{Runs, standing, ℕ, ◌+◌, ◌-◌, ◌^◌, ◌↔◌, ◌∙◌, ◌∷◌, ◌≡◌, ◌≤◌, [], ap, arith, false, length, List, min, refl, subst, sym, true}
use Rattle.pb_sums.proofs.Common.{min-le_left, end_or_go, go_or_end, one_end, one_state, refuse_or_end, refuse_or_go, never, AcceptsItems, Admits, End, Go}
use Rattle.pb_sums.proofs.Common.{IsState, Next, ReadsStatement, Refuse, SkipsGap, Item, Letter, SumEvent, Term, Stop, Kind, Phase, Part, Spaces, finished}
use Rattle.pb_sums.proofs.Common.{is_done, is_in_number, is_midway, is_more, is_numeric, kind, letter_at, Outcome, PhaseFits, step, transition, Work, all_units}
use Rattle.pb_sums.proofs.Common.{first, in_hand, IsInOrder, last, over, ready, sums, SumState, units, with_work, IsOneText, Some, after_space}
use Rattle.pb_sums.proofs.lemmas.machine.{Counts.potential, Counts.letter-grows, Flags.gone, Flags.ended}
use Rattle.pb_sums.proofs.lemmas.machine.Links.{midway-not-done, reads_grammar, reads_something}
use Rattle.pb_text.proofs.lemmas.machine.OneText.{IsOfOne, is_state as of_one_state, admits as of_one_admits}

-- When the automaton continues, and when it ends.
gone-from : (s next : SumState) (b : ℕ) (n : Outcome) → step s.spaces s.part s.limit s.work b ≡ n → over s n ≡ Go next
    → (v : Work) × (next ≡ with_work s v) × (step s.spaces s.part s.limit s.work b ≡ Go v)
gone-from s next b n e h = grind (arith, one_state, end_or_go, refuse_or_go)

pub continues : (s next : SumState) (b : ℕ) → sums.step s b ≡ Go next → (v : Work) × (next ≡ with_work s v) × (step s.spaces s.part s.limit s.work b ≡ Go v)
continues s next b h = gone-from s next b (step s.spaces s.part s.limit s.work b) refl h

ended-from : (s next : SumState) (b : ℕ) (f : SumEvent) (n : Outcome) → step s.spaces s.part s.limit s.work b ≡ n → over s n ≡ End f next → next ≡ with_work s finished
ended-from s next b f (Go v) e h = go_or_end (with_work s v) f next h
ended-from s next b f (End g v) e h =
    sym (one_end g f (with_work s v) next h).1 ∙ ap (λ w. with_work s w) (ended s.part s.limit s.spaces s.work v g (letter_at (is_numeric s.work.phase) b) e).1
ended-from s next b f Refuse e h = refuse_or_end f next h

pub ended-last : (s next : SumState) (b : ℕ) (f : SumEvent) → sums.step s b ≡ End f next → next ≡ with_work s finished
ended-last s next b f h = ended-from s next b f (step s.spaces s.part s.limit s.work b) refl h

pub continues-midway : (s next : SumState) (b : ℕ) → sums.step s b ≡ Go next → sums.begun next ≡ true
continues-midway s next b h =
    let f : (v : Work) × (next ≡ with_work s v) × (step s.spaces s.part s.limit s.work b ≡ Go v) = continues s next b h in
    ap (λ x. is_midway x.work.phase) f.1 ∙ (gone s.part s.limit s.spaces s.work f.0 (letter_at (is_numeric s.work.phase) b) f.2).1

done-stops : (want : Part) (limit : ℕ) (ph : Phase) (k : Kind) → is_done ph ≡ true → transition want limit ph k ≡ Stop
done-stops want limit ph k h = grind arith

numbers-midway : (ph : Phase) → is_midway ph ≡ false → is_in_number ph ≡ false
numbers-midway ph h = grind arith

nothing-kept : (ph : Phase) → is_midway ph ≡ false → 0 + in_hand ph + 0 + ready ph ≡ 0
nothing-kept ph h = grind arith

pub stopped : (s : SumState) → sums.done s ≡ true → (b : ℕ) → sums.step s b ≡ Refuse
stopped s h b = grind (arith, s.work.phase, s.work.terms, s.work.name, done-stops, s.part, s.limit, s.spaces)

-- a machine of sums is a machine of one text
abbrev ended_state : SumState → SumState
ended_state s = with_work s finished

of_one : IsOfOne sums (λ s. Unit {0}) ended_state
of_one = record {
  keeps = λ s next b g h. tt;
  begins = continues-midway;
  owes = λ s i. midway-not-done s.work.phase i;
  leads = λ s next b h. ap ended_state (continues s next b h).1;
  ends = ended-last;
  done = λ s. refl;
  stops = stopped;
  goes_on = λ s g h. reads_something s.spaces s.part s.limit s.work h;
  plain = λ s i. numbers-midway s.work.phase i;
  grows = λ s next b e.
      let f : (v : Work) × (next ≡ with_work s v) × (step s.spaces s.part s.limit s.work b ≡ Go v) = continues s next b e in
      subst (λ x. potential x.work ≤ potential s.work + 1) (sym f.1)
      (letter-grows s.spaces s.part s.limit s.work f.0 (kind s.spaces (letter_at (is_numeric s.work.phase) b)) f.2);
  bounds = λ s. kept-within (all_units s.work) (ready s.work.phase);
}
  where
    kept-within : (n r : ℕ) → min n (2 ^ 64 - 1) ≤ n + r
    kept-within n r = omega (arith, min-le_left n (2 ^ 64 - 1))

pub is_state : (s : SumState) → IsInOrder s.limit s.work → IsState sums s
is_state s h = of_one_state sums (λ s. Unit {0}) ended_state of_one s tt (λ i. empty-kept s.work i (h.1 i))
  where
    empty-kept : (w : Work) → is_midway w.phase ≡ false → (w.terms ≡ []) × (w.name ≡ []) → potential w ≡ 0
    empty-kept w i e = ap (λ xs. units xs + in_hand w.phase + length w.name + ready w.phase) e.0
        ∙ (ap (λ (n : List ℕ). 0 + in_hand w.phase + length n + ready w.phase) e.1 ∙ nothing-kept w.phase i)

-- A byte that is taken begins something that is accepted.
pub admits : (s : SumState) (b : ℕ) (n : Next SumState SumEvent) → sums.step s b ≡ n → (n ≡ Refuse → ⊥) → Admits sums s b
admits s b n h i = of_one_admits sums (λ s. Unit {0}) ended_state of_one s b n tt h i

-- The first state accepts one text.
module _ (spaces : Spaces) (part : Part) (limit : ℕ) where
  abbrev begin : SumState
  begin = first spaces part limit

  abbrev end : SumState
  end = last spaces part limit

  no-gap : (s at : SumState) (gap : List ℕ) → SkipsGap sums s gap at → (gap ≡ []) × (at ≡ s)
  no-gap s at [] h = (refl, h)
  no-gap s at (b ∷ gap) (mid, e, f, h) = never (sums.begun mid) (continues-midway s mid b e) f

  pub nothing-after : (s : SumState) (text : List Letter) (e : SumEvent) (after : SumState) → sums.done s ≡ true → ReadsStatement sums s text e after → ⊥
  nothing-after s [] e after d h = h
  nothing-after s (l ∷ []) e after d h = refuse_or_end e after (sym (stopped s d l.byte) ∙ h.0)
  nothing-after s (l ∷ k ∷ text) e after d (mid, h, b, m, r) = refuse_or_go mid (sym (stopped s d l.byte) ∙ h)

  one_only : (items : List (Item SumEvent)) → AcceptsItems sums begin items → IsOneText spaces limit part items
  one_only items h = grind (arith, no-gap, reads_grammar, nothing-after)

  one_each : (items : List (Item SumEvent)) → IsOneText spaces limit part items → AcceptsItems sums begin items
  one_each [] h = absurd h
  one_each (i ∷ []) h = (
    begin,
    end,
    subst (λ g. SkipsGap sums begin g begin) (sym h.0) refl,
    (reads_grammar spaces part limit i.text i.event end).1 (h.1, refl),
    refl,
  )
  one_each (i ∷ j ∷ rest) h = absurd h

  pub accepts_one : (items : List (Item SumEvent)) → AcceptsItems sums begin items ↔ IsOneText spaces limit part items
  accepts_one items = (one_only items, one_each items)

  pub first_is_state : IsState sums begin
  first_is_state = is_state begin (tt, λ e. (refl, refl))

-- a state on the way through a text satisfies `IsInOrder`
pub midway_order : (limit : ℕ) (xs : List Term) (name : List ℕ) (q : Phase) → PhaseFits limit q → is_midway q ≡ true → IsInOrder limit (record { terms = xs; name = name; phase = q })
midway_order limit xs name q h i = (h, λ e. never (is_midway q) i e)

-- a state on the way through a text
pub midway_state : (spaces : Spaces) (part : Part) (limit : ℕ) (xs : List Term) (name : List ℕ) (q : Phase) → PhaseFits limit q → is_midway q ≡ true
    → IsState sums (record { spaces = spaces; part = part; limit = limit; work = record { terms = xs; name = name; phase = q } })
midway_state spaces part limit xs name q h i =
    is_state (record { spaces = spaces; part = part; limit = limit; work = record { terms = xs; name = name; phase = q } }) (midway_order limit xs name q h i)

-- a byte that leads to such a state, and a run from there
pub goes_then : (spaces : Spaces) (part : Part) (limit : ℕ) (s t : SumState) (xs : List Term) (name : List ℕ) (q : Phase) (b : ℕ) (text : List ℕ)
    → sums.step s b ≡ Go (standing spaces part limit xs name q) → PhaseFits limit q → is_midway q ≡ true
    → Runs sums (standing spaces part limit xs name q) text t → Runs sums s (b ∷ text) t
goes_then spaces part limit s t xs name q b text goes fits midway rest =
    (standing spaces part limit xs name q, goes, midway_state spaces part limit xs name q fits midway, rest)

pub more_midway : (p : Phase) → is_more p ≡ true → is_midway p ≡ true
more_midway p e = grind arith

-- a state within a name
pub more_state : (spaces : Spaces) (part : Part) (limit : ℕ) (xs : List Term) (name : List ℕ) (q : Phase) → PhaseFits limit q → is_more q ≡ true
    → IsState sums (record { spaces = spaces; part = part; limit = limit; work = record { terms = xs; name = name; phase = q } })
more_state spaces part limit xs name q h more = midway_state spaces part limit xs name q h (more_midway q more)

-- the state after a space
space-fits : (limit : ℕ) (p q : Phase) → Some q ≡ after_space p → PhaseFits limit q × (is_midway q ≡ true)
space-fits limit p q e = grind arith

pub space_state : (spaces : Spaces) (part : Part) (limit : ℕ) (xs : List Term) (name : List ℕ) (p q : Phase) → Some q ≡ after_space p
    → IsState sums (record { spaces = spaces; part = part; limit = limit; work = record { terms = xs; name = name; phase = q } })
space_state spaces part limit xs name p q e = let h = space-fits limit p q e in midway_state spaces part limit xs name q h.0 h.1
