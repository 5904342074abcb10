-- What holds of each state that the proof machine can be in.
use Rattle.pb_proof.proofs.Common.{ℕ, split_at, eqb-true, accepted, reads_on, unmarked, LineKind, Complete, words_of, IsStaged, IsInOrder, next_action, Closing}
use Rattle.pb_proof.proofs.Common.{admitted_on, is_complete, slice_index, line_first, next_stage, End, none_word, cond_both, same_Some, Statement, step_line}
use Rattle.pb_proof.proofs.Common.{◌≤◌, conclusion_word, ProofPhase as Phase, proof_spell as spell, proof_over as over, ProofAction as Action, Go, ◌≡◌, suc}
use Rattle.pb_proof.proofs.Common.{sym, act, at, ◌-◌, [], ap, true, Item, idle, ◌&&◌, Some, Next, Bool, ◌+◌, ◌<◌, ◌^◌, length, Letter, giving, proofs, refuses}
use Rattle.pb_proof.proofs.Common.{further, IsAlive, f_word, ReadsOn, IsState, NoClaim, Keyword, ◌∙◌, Holds, never, asked, enter, meets, arith, IsTrue, nat_eq}
use Rattle.pb_proof.proofs.Common.{Option, Admits, Refuse, ◌∷◌, ◌++◌, drop, List, None, refl, take, false, subst, final, plain, Stage, Steps, rules, is_blank}
use Rattle.pb_proof.proofs.Common.{LineMachine, append_assoc, AcceptsItems, admits_final, length-append, line_automaton, admits_before, length-take-le, Formula}
use Rattle.pb_proof.proofs.Common.{ProofState, ProofPhaseFits as PhaseFits, proof_between as between, proof_transition as transition, proof_within as is_within}
use Rattle.pb_proof.proofs.{Common.Opening, Common.HasGaps, lemmas.machine.Exact.no_gap, lemmas.machine.Exact.finishes, lemmas.machine.Exact.ordered_each}
use Rattle.pb_proof.proofs.lemmas.Carried.{reads_in}
use Rattle.pb_lines.proofs.lemmas.Ends.{fed, ended}
use Rattle.pb_proof.proofs.lemmas.line.Laws.{line_begins, line_fresh, line_first_state}
use Rattle.pb_proof.proofs.lemmas.Spaced.{Spaced, chooses, KeywordWords, keyword_only, some_byte}
use Rattle.pb_proof.proofs.lemmas.machine.Complete.{spelt, header_end, output_end, step_on, step_last, line_nests, is_giving, meets_any}
use Rattle.{pb_proof.specs.engine.machine.State.asks, pb_proof.specs.engine.machine.State.is_done, pb_text.proofs.lemmas.machine.Living.before}

plain_spaced : (w : List ℕ) → Spaced w (plain w)
plain_spaced [] = refl
plain_spaced (c ∷ w) = (unmarked c ∷ [], plain w, refl, grind (arith, chooses, eqb-true), plain_spaced w)

written : (f : Keyword) → KeywordWords f (plain (words_of f))
written f = keyword_only f (plain (words_of f)) (plain_spaced (words_of f))

abbrev item : List Letter → Statement → Item Statement
item text e = record { gap = []; text = text; event = e }

-- an example of what may come at each stage
abbrev closing_lines : List (Item Statement)
closing_lines = item (plain (words_of Keyword.End)) Statement.End ∷ []

abbrev conclusion_lines : List (Item Statement)
conclusion_lines = item (plain conclusion_word ++ (plain (32 ∷ none_word) ++ unmarked 10 ∷ [])) (Statement.Conclude NoClaim) ∷ closing_lines

abbrev step_lines : List (Item Statement)
step_lines = item (plain (words_of Keyword.Output) ++ unmarked 10 ∷ []) Statement.Output ∷ conclusion_lines

abbrev formula_lines : List (Item Statement)
formula_lines = item (plain f_word ++ unmarked 10 ∷ []) (Statement.F None) ∷ step_lines

abbrev pub example : Stage → List (Item Statement)
example Complete = []
example Closing = closing_lines
example Stage.Concluding = conclusion_lines
example Steps = step_lines
example Formula = formula_lines
example Opening = item (plain (words_of Keyword.Header) ++ unmarked 10 ∷ []) Statement.Header ∷ formula_lines

module _ (limit top : ℕ) where
  closing_ordered : IsStaged limit top Closing closing_lines
  closing_ordered = (no_gap, refl, written Keyword.End, refl)

  conclusion_ordered : IsStaged limit top Stage.Concluding conclusion_lines
  conclusion_ordered = (
    no_gap,
    refl,
    (
      plain conclusion_word,
      plain (32 ∷ none_word) ++ unmarked 10 ∷ [],
      refl,
      refl,
      (plain (32 ∷ none_word), unmarked 10 ∷ [], refl, (unmarked 32 ∷ [], plain none_word, refl, (32, [], refl, tt, refl), refl), ended),
    ),
    closing_ordered,
  )

  steps_ordered : IsStaged limit top Steps step_lines
  steps_ordered = (no_gap, refl, (plain (words_of Keyword.Output), unmarked 10 ∷ [], refl, written Keyword.Output, ended), conclusion_ordered)

  formula_ordered : IsStaged limit top Formula formula_lines
  formula_ordered = (no_gap, refl, (plain f_word, unmarked 10 ∷ [], refl, refl, ended), steps_ordered)

  example_ordered : (s : Stage) → IsStaged limit top s (example s)
  example_ordered Complete = refl
  example_ordered Closing = closing_ordered
  example_ordered Stage.Concluding = conclusion_ordered
  example_ordered Steps = steps_ordered
  example_ordered Formula = formula_ordered
  example_ordered Opening = (refl, refl, (plain (words_of Keyword.Header), unmarked 10 ∷ [], refl, written Keyword.Header, fed), formula_ordered)

  pub stage_accepts : (s : Stage) → AcceptsItems proofs (idle limit top s) (example s)
  stage_accepts s = ordered_each limit top (example s) s (example_ordered s)

  pub header_end_alive : IsAlive proofs (header_end limit top)
  header_end_alive = final proofs (header_end limit top) (idle limit top Formula) 10 Statement.Header refl (example Formula) (stage_accepts Formula)

  pub output_end_alive : (may : Bool) → IsAlive proofs (output_end limit top may)
  output_end_alive may = final proofs (output_end limit top may) (idle limit top Stage.Concluding) 10 Statement.Output refl (example Stage.Concluding) (stage_accepts Stage.Concluding)

  pub reading_alive : (r : LineKind) (i : LineMachine) → ReadsOn line_automaton i → IsAlive proofs (giving limit top r i)
  reading_alive r i (text, e, last, h) = record {
    text = text;
    event = e;
    after = idle limit top (next_stage r);
    reads = reads_in line_automaton proofs _ _ _ (line_nests limit top r) text i e last h;
    rest = example (next_stage r);
    accepts = stage_accepts (next_stage r);
  }

  pub inside_alive : (r : LineKind) (i : LineMachine) → IsState line_automaton i → line_automaton.done i ≡ false → IsAlive proofs (giving limit top r i)
  inside_alive r i state d = reading_alive r i (reads_on line_automaton line_begins i state d)

  module _ (l : limit < 2 ^ 127) (t : top < 2 ^ 63) (some : 0 < top) where
    pub first_alive : (r : LineKind) → IsAlive proofs (giving limit top r (line_first limit top r))
    first_alive r = inside_alive r (line_first limit top r) (line_first_state limit top l t some r) (line_fresh limit top r).0

    pub solution_alive : IsAlive proofs (at limit top Phase.Solution)
    solution_alive = before proofs (at limit top Phase.Solution) (giving limit top LineKind.Soli (line_first limit top LineKind.Soli)) 105 refl refl (first_alive LineKind.Soli)

    after_alive : (f : Keyword) (k c : ℕ) → proofs.step (spelt limit top f k) c ≡ act (spelt limit top f k) c (next_action f) → IsAlive proofs (spelt limit top f k)
    after_alive Keyword.Header k c e = before proofs (spelt limit top Keyword.Header k) (header_end limit top) c e refl header_end_alive
    after_alive Keyword.Solution k c e = before proofs (spelt limit top Keyword.Solution k) (at limit top Phase.Solution) c e refl solution_alive
    after_alive Keyword.Output k c e = before proofs (spelt limit top Keyword.Output k) (output_end limit top true) c e refl (output_end_alive true)
    after_alive Keyword.End k c e = final proofs (spelt limit top Keyword.End k) (idle limit top Complete) c Statement.End e [] refl
    after_alive _ k c e = search (rules, before, first_alive)

    spelling_on : (f : Keyword) (before_it left : List ℕ) (c : ℕ) → words_of f ≡ before_it ++ c ∷ left → IsAlive proofs (spelt limit top f (length before_it))
    spelling_on f before_it [] c e = after_alive f (length before_it) c (step_last limit top f before_it c c e (meets_any c))
    spelling_on f before_it (d ∷ left) c e =
        before proofs (spelt limit top f (length before_it)) (spelt limit top f (length before_it + 1)) c (step_on limit top f before_it left c d c e (meets_any c)) refl
        (subst (λ k. IsAlive proofs (spelt limit top f k)) (length-append before_it (c ∷ []))
        (spelling_on f (before_it ++ c ∷ []) left d (e ∙ sym (append_assoc before_it (c ∷ []) (d ∷ left)))))

    pub spelling_alive : (f : Keyword) (k : ℕ) → k < length (words_of f) → IsAlive proofs (spelt limit top f k)
    spelling_alive f k h =
        subst (λ j. IsAlive proofs (spelt limit top f j)) (length-take-le k (words_of f) (omega arith))
        (spelling_on f (take k (words_of f)) (drop (suc k) (words_of f)) (slice_index (words_of f) k) (split_at (words_of f) k 0 h))

-- the state, if it has no line machine
is_at : (s : ProofState) (p : Phase) → s.phase ≡ p → s.line ≡ None → s ≡ at s.limit s.top p
is_at s p e h = rw (e, h) refl

at_accepts : (s : ProofState) (p : Phase) → s.phase ≡ p → s.line ≡ None → IsAlive proofs (at s.limit s.top p) → (items : List (Item Statement)) × AcceptsItems proofs s items
at_accepts s p e h alive = accepted proofs s (subst (IsAlive proofs) (sym (is_at s p e h)) alive)

-- after the line feed of a comment
comment_accepts : (limit top : ℕ) (s : Stage) → HasGaps s → (items : List (Item Statement)) → AcceptsItems proofs (idle limit top s) items → (items' : List (Item Statement)) × AcceptsItems proofs (at limit top (Phase.Comment s)) items'
comment_accepts limit top Opening h items a = absurd h
comment_accepts limit top Complete h items a = absurd h
comment_accepts limit top s h [] a = absurd (let f : ⊥ = cc in f)
comment_accepts limit top s h (i ∷ items) (mid, after, g, r, a) =
    (record { gap = 10 ∷ i.gap; text = i.text; event = i.event } ∷ items, (mid, after, (idle limit top s, refl, refl, g), r, a))

-- what a state accepts, by its phase
by_phase : (s : ProofState) → IsInOrder s → (p : Phase) → s.phase ≡ p → PhaseFits p → Holds s p → (items : List (Item Statement)) × AcceptsItems proofs s items
by_phase s order (Phase.Between here) e fits h =
    (example here, subst (λ x. AcceptsItems proofs x (example here)) (sym (is_at s (Phase.Between here) e h)) (stage_accepts s.limit s.top here))
by_phase s order (Phase.Comment here) e fits h =
    let (items, a) = comment_accepts s.limit s.top here fits (example here) (stage_accepts s.limit s.top here) in
    (items, subst (λ x. AcceptsItems proofs x items) (sym (is_at s (Phase.Comment here) e h)) a)
by_phase s order (Phase.Spelling f k) e fits h = at_accepts s (Phase.Spelling f k) e h (spelling_alive s.limit s.top order.limit order.top order.some f k fits.1)
by_phase s order Phase.Solution e fits h = at_accepts s Phase.Solution e h (solution_alive s.limit s.top order.limit order.top order.some)
by_phase s order Phase.HeaderEnd e fits h = at_accepts s Phase.HeaderEnd e h (header_end_alive s.limit s.top)
by_phase s order (Phase.OutputEnd may) e fits h = at_accepts s (Phase.OutputEnd may) e h (output_end_alive s.limit s.top may)
by_phase s order (Phase.Inside r) e fits (i, g, d, state) =
    accepted proofs s (subst (IsAlive proofs) (sym (is_giving s r i e g)) (inside_alive s.limit s.top r i state d))

-- each state in order accepts something
pub live : (s : ProofState) → IsInOrder s → (items : List (Item Statement)) × AcceptsItems proofs s items
live s h = by_phase s h s.phase refl h.fits h.holds

-- What holds of each state that the proof machine can be in.

-- the phase has no line machine
abbrev pub IsPlain : Phase → Type 0
IsPlain (Phase.Inside r) = ⊥
IsPlain _ = Unit {0}

-- the proof is not complete at `q`, and a statement that has begun continues
pub record GoesOn (p q : Phase) : Type 0 where
  pub owes : is_done q ≡ false
  pub stays : is_within p ≡ true → is_within q ≡ true
  pub fits : PhaseFits q
  pub plain : IsPlain q

-- What holds of a move from a phase.
abbrev pub OnAction : Phase → Action → Type 0
OnAction p (Action.To q) = IsPlain p × GoesOn p q
OnAction p (Action.Give r) = p ≡ Phase.Inside r
OnAction p _ = IsPlain p

within_on : (p q : Phase) → IsPlain p → is_done q ≡ false → is_within q ≡ true → PhaseFits q → IsPlain q → OnAction p (Action.To q)
within_on p q o d w f n = (o, record { owes = d; stays = λ _. w; fits = f; plain = n })

pub on_after : (p : Phase) → IsPlain p → (f : Keyword) → OnAction p (next_action f)
on_after p o f = grind (arith, within_on)

on_spell : (p : Phase) → IsPlain p → (f : Keyword) (k b : ℕ) (other : Action) → k < length (words_of f) → OnAction p other → OnAction p (spell f k b other)
on_spell p o f k b other h i = cond_both (meets (slice_index (words_of f) k) b) _ _ (OnAction p)
    (λ _. cond_both (nat_eq (k + 1) (length (words_of f))) _ _ (OnAction p)
    (λ _. on_after p o f)
    (λ e. within_on p (Phase.Spelling f (k + 1)) o refl refl (omega arith, further k (length (words_of f)) h e) tt))
    (λ _. i)

on_enter : (p : Phase) → IsPlain p → (s : Stage) (b : ℕ) → OnAction p (enter s b)
on_enter p o Opening b = on_spell p o Keyword.Header 0 b Action.Stop (some_byte Keyword.Header) o
on_enter p o s b = grind (arith, on_spell, some_byte)

gaps_incomplete : (s : Stage) → HasGaps s → is_complete s ≡ false
gaps_incomplete s h = grind arith

on_between : (s : Stage) (b : ℕ) → OnAction (Phase.Between s) (between s b)
on_between Opening b = on_enter (Phase.Between Opening) tt Opening b
on_between Complete b = tt
on_between s b = grind (arith, gaps_incomplete, on_enter)

-- the transitions of each phase
pub on_transition : (p : Phase) (b : ℕ) → PhaseFits p → OnAction p (transition p b)
on_transition (Phase.Between s) b h = on_between s b
on_transition (Phase.Comment s) b h = grind (arith, nat_eq, gaps_incomplete)
on_transition (Phase.Spelling f k) b h = on_spell (Phase.Spelling f k) tt f k b _ h.1
    (cond_both (is_blank b && nat_eq (slice_index (words_of f) (k - 1)) 32) _ _ (OnAction (Phase.Spelling f k))
    (λ _. within_on (Phase.Spelling f k) (Phase.Spelling f k) tt refl refl h tt) (λ _. tt))
on_transition Phase.Solution b h = cond_both (nat_eq b 105) _ _ (OnAction Phase.Solution) (λ _. tt) (λ _. cond_both (nat_eq b 120) _ _ (OnAction Phase.Solution) (λ _. tt) (λ _. tt))
on_transition Phase.HeaderEnd b h = grind (arith, within_on, nat_eq)
on_transition (Phase.OutputEnd may) b h = grind (arith, within_on, nat_eq)
on_transition (Phase.Inside r) b h = refl

-- without a line machine nothing is stored, and no number is read
pub plain_holds : (s : ProofState) (p : Phase) → IsPlain p → Holds s p → s.line ≡ None
plain_holds s p o h = grind arith

-- what holds after a byte
pub record Continues (s next : ProofState) : Type 0 where
  pub owes : proofs.done next ≡ false
  pub stays : proofs.begun s ≡ true → proofs.begun next ≡ true
  pub grows : proofs.spent next ≤ proofs.spent s + 1

abbrev On : ProofState → Next ProofState Statement → Type 0
On s (Go next) = Continues s next
On s (End e next) = proofs.begun next ≡ false
On s Refuse = Unit {0}

-- the line machine that is given a byte
pub inside_of : (s : ProofState) (p : Phase) (r : LineKind) → p ≡ Phase.Inside r → Holds s p → (i : LineMachine) × (s.line ≡ Some i) × (line_automaton.done i ≡ false) × IsState line_automaton i
inside_of s p r e h = subst (Holds s) e h

on_act : (s : ProofState) → IsInOrder s → (b : ℕ) (m : Action) → OnAction s.phase m → On s (act s b m)
on_act s h b m k = grind (arith, line_first_state, line_fresh, inside_of)

steps : (s : ProofState) → IsInOrder s → (b : ℕ) → On s (proofs.step s b)
steps s h b = on_act s h b (transition s.phase b) (on_transition s.phase b h.fits)

pub continues : (s next : ProofState) (b : ℕ) → IsInOrder s → proofs.step s b ≡ Go next → Continues s next
continues s next b h e = subst (On s) e (steps s h b)

pub is_state : (s : ProofState) → IsInOrder s → IsState proofs s
is_state s h = grind (arith, live, finishes, continues, steps, plain_holds, s.phase, h.holds, never)

-- What holds of the machine after a byte.
module _ (s : ProofState) (h : IsInOrder s) (b : ℕ) where
  pub known : (m : Action) → transition s.phase b ≡ m → OnAction s.phase m
  known m e = subst (OnAction s.phase) e (on_transition s.phase b h.fits)

  -- without a line machine
  pub at_order : (p : Phase) → IsPlain p → PhaseFits p → (i : Option LineMachine) → i ≡ None → IsInOrder (record { limit = s.limit; top = s.top; phase = p; line = i })
  at_order p o f i e = record { limit = h.limit; top = h.top; some = h.some; fits = f; holds = grind (arith, p, o, e) }

  pub to_order : (p : Phase) → transition s.phase b ≡ Action.To p → IsInOrder (record s { phase = p })
  to_order p e = let k = known (Action.To p) e in at_order p k.1.plain k.1.fits s.line (plain_holds s s.phase k.0 h.holds)

  pub begin_order : (r : LineKind) → IsInOrder (giving s.limit s.top r (line_first s.limit s.top r))
  begin_order r = record {
    limit = h.limit;
    top = h.top;
    some = h.some;
    fits = tt;
    holds = (line_first s.limit s.top r, refl, (line_fresh s.limit s.top r).0, line_first_state s.limit s.top h.limit h.top h.some r);
  }

  module _ (r : LineKind) (planned : transition s.phase b ≡ Action.Give r) where
    pub given : (i : LineMachine) × (s.line ≡ Some i) × (line_automaton.done i ≡ false) × IsState line_automaton i
    given = inside_of s s.phase r (known (Action.Give r) planned) h.holds

    pub give_order : (i line : LineMachine) → s.line ≡ Some i → line_automaton.step i b ≡ Go line → IsState line_automaton line → IsInOrder (giving s.limit s.top r line)
    give_order i line e g state = grind (arith, same_Some)

    stepped : (i : LineMachine) → s.line ≡ Some i → (n : Next LineMachine Statement) → line_automaton.step i b ≡ n → proofs.step s b ≡ over s r n
    stepped i e n g = ap (act s b) planned ∙ (ap (λ x. over s r (step_line x b)) e ∙ ap (over s r) g)

    by_step : (i : LineMachine) → s.line ≡ Some i → IsState line_automaton i → (n : Next LineMachine Statement) → line_automaton.step i b ≡ n → Admits line_automaton i b → Admits proofs s b
    by_step i e old (Go line) g a =
        admits_before proofs s (giving s.limit s.top r line) b (stepped i e (Go line) g) refl
        (reading_alive s.limit s.top r line (admitted_on line_automaton line_begins i line b g a))
    by_step i e old (End x last) g a = admits_final proofs s (idle s.limit s.top (next_stage r)) b x (stepped i e (End x last) g) (example (next_stage r)) (stage_accepts s.limit s.top (next_stage r))
    by_step i e old Refuse g a = absurd (refuses line_automaton i i b g a.0 a.1 (a.2, a.3))

    pub give_admits : (i : LineMachine) → s.line ≡ Some i → IsTrue (line_automaton.asks i b) → Admits line_automaton i b → IsTrue (proofs.asks s b) × Admits proofs s b
    give_admits i e asking a =
        let (j, f, d, old) = given in (
          subst (λ m. IsTrue (asks s b m)) (sym planned) (subst (λ x. IsTrue (asked false (λ y. line_automaton.asks y b) x)) (sym e) asking),
          by_step i e (subst (IsState line_automaton) (same_Some j i (sym f ∙ e)) old) (line_automaton.step i b) refl a,
        )
