-- Runs of the machine, and what is taken in one call.
use Rattle.pb_proof.proofs.Common.{ℕ, LineKind, words_of, IsInOrder, next_action}
use Rattle.pb_proof.proofs.Common.{◌≤◌, ProofPhase as Phase, ◌≡◌, ap₂}
use Rattle.{pb_proof.proofs.Common.proof_over as over}
use Rattle.pb_proof.proofs.Common.{is_blank, SumState, rup_over, RupState, RupPhase}
use Rattle.pb_proof.proofs.Common.{Go, suc, get_or, ◌∷◌, zero, sums, Runs, Give, ◌++◌, List, refl, take, false, subst}
use Rattle.pb_proof.proofs.Common.{sym, ◌+◌, ◌<◌, length, giving, proofs, rup_act, IsState, Keyword, ◌∙◌, Holds, arith, Option, Linear}
use Rattle.pb_proof.proofs.Common.{act, Some, LineMachine, append_assoc, IsRupInOrder, rup_automaton, length-append}
use Rattle.pb_proof.proofs.Common.{at, line_automaton, rup_transition, ProofState}
use Rattle.pb_proof.proofs.{Common.[], Common.ap, lemmas.Rup.rup_is_state}
use Rattle.pb_proof.proofs.lemmas.{machine.Complete.spelt, machine.Complete.step_on, machine.Complete.step_last, machine.Complete.meets_any}
use Rattle.pb_proof.proofs.lemmas.machine.States.{continues, is_state, give_order}
use Rattle.pb_proof.proofs.lemmas.Rup as rup_states

-- Runs of the machine.

-- A run of the sum machine is a run of the `rup` machine.

-- within the text after a first word
within : (limit top : ℕ) (r : LineKind) (old : LineMachine) → IsInOrder (giving limit top r old) → (text : List ℕ) (new : LineMachine) → Runs line_automaton old text new
    → Runs proofs (giving limit top r old) text (giving limit top r new) × IsInOrder (giving limit top r new)
within limit top r old h [] new same = (ap (giving limit top r) same, subst (λ (i : LineMachine). IsInOrder (giving limit top r i)) (sym same) h)
within limit top r old h (b ∷ text) new (mid, continues, state, rest) =
    let s = giving limit top r old in
    let k = give_order s h b r refl old mid refl continues state in
    let (runs, order) = within limit top r mid k text new rest in
    ((giving limit top r mid, ap (over s r) continues, is_state (giving limit top r mid) k, runs), order)

-- if a line machine is stored, the phase is `Inside`
reading : (s : ProofState) (p : Phase) → Holds s p → (i : LineMachine) → s.line ≡ Some i → (r : LineKind) × (p ≡ Phase.Inside r)
reading s p h i e = grind arith

abbrev put : ProofState → Phase → Option LineMachine → ProofState
put s p i = record { limit = s.limit; top = s.top; phase = p; line = i }

-- the run, and the order after it
pub runs_given : (s : ProofState) → IsInOrder s → (old : LineMachine) → s.line ≡ Some old → (text : List ℕ) (new : LineMachine) → Runs line_automaton old text new
    → Runs proofs s text (record s { line = Some new }) × IsInOrder (record s { line = Some new })
runs_given s h old e text new runs =
    let (r, at) = reading s s.phase h.holds old e in
    let same : s ≡ giving s.limit s.top r old = ap₂ (put s) at e in
    let further : giving s.limit s.top r new ≡ record s { line = Some new } = ap (λ p. put s p (Some new)) (sym at) in
    let k = within s.limit s.top r old (subst IsInOrder same h) text new runs in (
      subst (λ x. Runs proofs x text (record s { line = Some new })) (sym same) (subst (λ x. Runs proofs (giving s.limit s.top r old) text x) further k.0),
      subst IsInOrder further k.1,
    )

-- within a constraint
within_rup : (o : Option Linear) (old : SumState) → IsRupInOrder (record { phase = RupPhase.Inside; sums = old; linear = o }) → (text : List ℕ) (new : SumState) → Runs sums old text new
    → Runs rup_automaton (record { phase = RupPhase.Inside; sums = old; linear = o }) text (record { phase = RupPhase.Inside; sums = new; linear = o })
    × IsRupInOrder (record { phase = RupPhase.Inside; sums = new; linear = o })
within_rup o old h [] new same = grind arith
within_rup o old h (b ∷ text) new (mid, continues, state, rest) =
    let s : RupState = record { phase = RupPhase.Inside; sums = old; linear = o } in
    let next : RupState = record { phase = RupPhase.Inside; sums = mid; linear = o } in
    let k = rup_states.give_order s h b mid refl continues state in
    let (runs, order) = within_rup o mid k text new rest in ((next, ap (rup_over s) continues, rup_states.rup_is_state next k, runs), order)

pub rup_runs_given : (s : RupState) → IsRupInOrder s → s.phase ≡ RupPhase.Inside → (text : List ℕ) (new : SumState) → Runs sums s.sums text new
    → Runs rup_automaton s text (record s { sums = new }) × IsRupInOrder (record s { sums = new })
rup_runs_given s h at text new runs =
    let same : s ≡ record s { phase = RupPhase.Inside } = ap (λ p. let x : RupState = record s { phase = p } in x) at in
    let further : (let x : RupState = record s { phase = RupPhase.Inside; sums = new } in x) ≡ record s { sums = new } = ap (λ p. let x : RupState = record s { phase = p; sums = new } in x) (sym at) in
    let k = within_rup s.linear s.sums (subst IsRupInOrder same h) text new runs in (
      subst (λ x. Runs rup_automaton x text (record s { sums = new })) (sym same) (subst (λ x. Runs rup_automaton (record s { phase = RupPhase.Inside }) text x) further k.0),
      subst IsRupInOrder further k.1,
    )

-- the first bytes of a constraint, after blanks
pub rup_runs_begun : (s : RupState) → IsRupInOrder s → s.phase ≡ RupPhase.Gap → (n : ℕ) (text : List ℕ) (new : SumState) → 0 < n → n ≤ length text → is_blank (get_or text 0 0) ≡ false
    → Runs sums s.sums (take n text) new
    → Runs rup_automaton s (take n text) (record s { phase = RupPhase.Inside; sums = new }) × IsRupInOrder (record s { phase = RupPhase.Inside; sums = new })
rup_runs_begun s h at n [] new some fits begins runs = absurd (omega arith)
rup_runs_begun s h at zero (b ∷ text) new some fits begins runs = absurd (omega arith)
rup_runs_begun s h at (suc n) (b ∷ text) new some fits begins (mid, continues, state, rest) =
    let planned : rup_transition s.phase b ≡ Give = rw (at, begins) refl in
    let next : RupState = record { phase = RupPhase.Inside; sums = mid; linear = s.linear } in
    let k = rup_states.give_order s h b mid planned continues state in
    let (runs, order) = within_rup s.linear mid k (take n text) new rest in
    ((next, ap (rup_act s b) planned ∙ ap (rup_over s) continues, rup_states.rup_is_state next k, runs), order)

module _ (s : ProofState) (h : IsInOrder s) where
  abbrev spelling : Keyword → ℕ → ProofState
  spelling f k = spelt s.limit s.top f k

  spelling_state : (f : Keyword) (k : ℕ) → 0 < k → k < length (words_of f) → IsState proofs (spelling f k)
  spelling_state f k i j = is_state (spelling f k) (record { limit = h.limit; top = h.top; some = h.some; fits = (i, j); holds = refl })

  -- a run over remaining bytes, from the first of them
  pub left_run : (f : Keyword) (next : ProofState) → IsState proofs next → ((k b : ℕ) → act (spelling f k) b (next_action f) ≡ Go next)
      → (left prefix : List ℕ) (c : ℕ) → words_of f ≡ prefix ++ c ∷ left → Runs proofs (spelling f (length prefix)) (c ∷ left) next
  left_run f next state acts [] prefix c e = (next, step_last s.limit s.top f prefix c c e (meets_any c) ∙ acts (length prefix) c, state, refl)
  left_run f next state acts (d ∷ left) prefix c e =
      let more : length (words_of f) ≡ length prefix + (2 + length left) = ap length e ∙ (length-append prefix (c ∷ d ∷ left) ∙ omega arith) in
      let grown : length (prefix ++ c ∷ []) ≡ length prefix + 1 = length-append prefix (c ∷ []) in
      let rest = left_run f next state acts left (prefix ++ c ∷ []) d (e ∙ sym (append_assoc prefix (c ∷ []) (d ∷ left))) in (
        spelling f (length prefix + 1),
        step_on s.limit s.top f prefix left c d c e (meets_any c),
        spelling_state f (length prefix + 1) (omega arith) (omega arith),
        subst (λ (k : ℕ). Runs proofs (spelling f k) (d ∷ left) next) grown rest,
      )
