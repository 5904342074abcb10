-- Whole steps of a proof, taken in one call.
use Rattle.pb_proof.proofs.Common.{ℕ, zero, suc, ◌+◌, ◌<◌, ◌≡◌, ◌∙◌, ◌++◌, ◌∷◌, [], ap, arith, refl, sym, subst, false, List, Option, Some, None, get_or, length, take, take_more}
use Rattle.pb_proof.proofs.Common.{text_after, prefix_parts, Automaton, End, Go, Runs, TakesStatement, is_blank, runs_more, Part, Blank}
use Rattle.pb_proof.proofs.Common.{IsInOrder, Keyword, LineKind, LineMachine, ProofAction as Action, ProofState, Stage, Statement, giving, idle, line_automaton, line_first, next_action, next_stage, proofs, words_of}
use Rattle.pb_proof.proofs.Common.{Inside, IsRupInOrder, Linear, RupPhase, RupState, rup_over, SumEvent, rup_automaton, rup_first, rup_last, sum_first, sum_last, first_is_state, proof_over as over}
use Rattle.std.specs.Prelude.{option_map}
use Rattle.{pb_sums.specs.engine.TermParts.LeadsToLinear, pb_text.proofs.lemmas.text.Spans.runs_join}
use Rattle.pb_proof.proofs.lemmas.Carried.{Carries, runs_in}
use Rattle.pb_proof.proofs.lemmas.line.Laws.{rup_carries}
use Rattle.pb_proof.proofs.lemmas.Rup.{rup_is_state, tail_order}
use Rattle.pb_lines.proofs.lemmas.Whole.{far_byte}
use Rattle.pb_proof.proofs.lemmas.machine.{Complete.spelt, Runs.left_run, Runs.runs_given, Runs.rup_runs_begun, States.begin_order, States.is_state}
use Rattle.pb_proof.specs.engine.line.Carried.{carried}
use Rattle.pb_lines.specs.contract.Grammar.{Grammar}
use Rattle.pb_lines.specs.engine.Words.{WordsState, words_automaton, words_first, words_last}
use Rattle.pb_proof.specs.engine.machine.Whole.{IsLineAfter}
use Rattle.pb_sums.proofs.lemmas.machine.WholeTexts.{last_is_state, linear_some}

-- the first byte of a text that begins with a word
begins_as : (text word rest : List ℕ) (n a : ℕ) → take n text ≡ a ∷ word ++ rest → get_or text 0 0 ≡ a
begins_as [] word rest zero a e = cc
begins_as [] word rest (suc n) a e = cc
begins_as (b ∷ text) word rest zero a e = cc
begins_as (b ∷ text) word rest (suc n) a e = cc

module _ (limit top : ℕ) (h : IsInOrder (idle limit top Stage.Steps)) where
  abbrev here : ProofState
  here = idle limit top Stage.Steps

  -- the first word of a step, and then its line machine
  pub first_runs : (f : Keyword) (r : LineKind) (a c : ℕ) (left : List ℕ) → words_of f ≡ a ∷ c ∷ left → next_action f ≡ Action.Begin r → proofs.step here a ≡ Go (spelt limit top f 1)
      → Runs proofs here (a ∷ c ∷ left) (giving limit top r (line_first limit top r))
  first_runs f r a c left e n go =
      let begun : ProofState = giving limit top r (line_first limit top r) in
      let more : length (words_of f) ≡ 2 + length left = ap length e ∙ (let q : length (a ∷ c ∷ left) ≡ 2 + length left = omega arith in q) in (
        spelt limit top f 1,
        go,
        is_state (spelt limit top f 1) (record { limit = h.limit; top = h.top; some = h.some; fits = (omega arith, omega (arith, more)); holds = refl }),
        left_run here h f begun (is_state begun (begin_order here h 0 r)) (λ k b. rw n refl) left (a ∷ []) c e,
      )

  -- that word, and all of a line of the machine
  module _ {S E : Type 0} (m : Automaton S E) (into : S → LineMachine) (event : E → Statement) (carries : Carries m line_automaton into event) (r : LineKind) (stays : next_stage r ≡ Stage.Steps)
      (f : Keyword) (a c : ℕ) (left : List ℕ) (e : words_of f ≡ a ∷ c ∷ left) (n : next_action f ≡ Action.Begin r) (go : proofs.step here a ≡ Go (spelt limit top f 1)) where
    pub step_taken : (start mid after : S) → line_first limit top r ≡ into start → (text rest : List ℕ) (last : ℕ) (v : E) → last < length text → get_or text last 0 ≡ 10 → take last text ≡ (a ∷ c ∷ left) ++ rest
        → Runs m start rest mid → m.step mid 10 ≡ End v after → TakesStatement proofs here text (Some (last, event v)) here
    step_taken start mid after starts text rest last v inside feed cut runs ends =
        let begun : ProofState = giving limit top r (line_first limit top r) in
        let ending : ProofState = giving limit top r (into mid) in
        let line : Runs line_automaton (line_first limit top r) rest (into mid) =
        subst (λ (x : LineMachine). Runs line_automaton x rest (into mid)) (sym starts) (runs_in m line_automaton into event carries rest start mid runs) in
        let on = runs_given begun (begin_order here h 0 r) (line_first limit top r) refl rest (into mid) line in
        let stepped : line_automaton.step (into mid) 10 ≡ End (event v) (into after) = carries.nests.step mid 10 ∙ ap (carried into event (λ e. into)) ends in (
          inside,
          rw (begins_as text (c ∷ left) rest last a cut, go) refl,
          ending,
          subst (λ (x : List ℕ). Runs proofs here x ending) (sym cut) (runs_join proofs here (a ∷ c ∷ left) begun rest ending (first_runs f r a c left e n go) on.0),
          rw feed (ap (over ending r) stepped ∙ rw stays refl),
        )

  -- a line of words
  pub words_taken : {S E : Type 0} (grammar : ℕ → ℕ → Grammar S E) (into : WordsState S → LineMachine) (event : E → Statement) → Carries (words_automaton grammar) line_automaton into event
      → (r : LineKind) → next_stage r ≡ Stage.Steps → line_first limit top r ≡ into (words_first grammar limit top)
      → (f : Keyword) (a c : ℕ) (left : List ℕ) → words_of f ≡ a ∷ c ∷ left → next_action f ≡ Action.Begin r → proofs.step here a ≡ Go (spelt limit top f 1)
      → (text : List ℕ) (line : Option (ℕ × E)) → IsLineAfter grammar limit top (a ∷ c ∷ left) text line → TakesStatement proofs here text (option_map (λ x. (x.0, event x.1)) line) here
  words_taken grammar into event carries r stays starts f a c left e n go text None tt = refl
  words_taken grammar into event carries r stays starts f a c left e n go text (Some (last, v)) (inside, feed, rest, cut, (mid, runs, ends)) =
      step_taken (words_automaton grammar) into event carries r stays f a c left e n go (words_first grammar limit top) mid (words_last grammar limit top) starts text rest last v inside feed cut runs ends

-- a constraint and its `;`, after a space
module _ (limit : ℕ) where
  abbrev gap : RupState
  gap = record { phase = RupPhase.Gap; sums = sum_first limit; linear = None }

  -- after the constraint
  abbrev read : Linear → RupState
  read c = record { phase = RupPhase.Tail; sums = sum_last limit; linear = Some c }

  gap_order : IsRupInOrder gap
  gap_order = record { holds = (refl, refl); state = first_is_state Blank Part.AtLeast limit }

  rup_runs : (text : List ℕ) (c : Linear) (n : ℕ) → n < length text → is_blank (get_or text 0 0) ≡ false → LeadsToLinear limit Part.AtLeast (take n text) c
      → Runs rup_automaton (rup_first limit) (32 ∷ (take n text ++ 59 ∷ [])) (read c)
  rup_runs text c n inside begins leads =
      let (inner, runs, ends) = leads Blank in
      let within : RupState = record { phase = Inside; sums = inner; linear = None } in
      let k = rup_runs_begun gap gap_order refl n text inner (linear_some Blank Part.AtLeast limit n text c leads) (omega (arith, inside)) begins runs in
      let ended : IsRupInOrder (read c) = tail_order within 59 (SumEvent.Linear c) (sum_last limit) ends (last_is_state Blank Part.AtLeast limit) in (
        gap,
        refl,
        rup_is_state gap gap_order,
        runs_more rup_automaton gap (take n text) within 59 (read c) k.0 (ap (rup_over within) ends) (rup_is_state (read c) ended),
      )

-- a `rup`
pub rup_taken : (limit top : ℕ) → IsInOrder (idle limit top Stage.Steps) → (text : List ℕ) (c : Linear) (n : ℕ) → take 4 text ≡ 114 ∷ 117 ∷ 112 ∷ 32 ∷ [] → is_blank (get_or text 4 0) ≡ false
    → n < length (text_after 4 text) → get_or (text_after 4 text) n 0 ≡ 59 → LeadsToLinear limit Part.AtLeast (take n (text_after 4 text)) c → n + 5 < length text → get_or text (n + 5) 0 ≡ 10
    → TakesStatement proofs (idle limit top Stage.Steps) text (Some (n + 5, Statement.Rup c)) (idle limit top Stage.Steps)
rup_taken limit top h text c n word begins inside semicolon leads ends feed =
    let rest : List ℕ = text_after 4 text in
    let five : n + 5 ≡ 4 + (n + 1) = omega arith in
    let cut : take (n + 5) text ≡ 114 ∷ 117 ∷ 112 ∷ 32 ∷ (take n rest ++ 59 ∷ []) =
    ap (λ (k : ℕ). take k text) five ∙ (prefix_parts text 4 (n + 1) ∙ (ap (λ (x : List ℕ). x ++ take (n + 1) rest) word
    ∙ ap (λ (x : List ℕ). 114 ∷ 117 ∷ 112 ∷ 32 ∷ x) (take_more rest n 0 inside ∙ ap (λ (b : ℕ). take n rest ++ b ∷ []) semicolon))) in
    step_taken limit top h rup_automaton LineMachine.Rup Statement.Rup rup_carries LineKind.Rup refl Keyword.Rup 114 117 (112 ∷ []) refl refl refl (rup_first limit) (read limit c) (rup_last limit) refl
    text (32 ∷ (take n rest ++ 59 ∷ [])) (n + 5) c ends feed cut (rup_runs limit rest c n inside (ap is_blank (far_byte text 4 0) ∙ begins) leads) refl
