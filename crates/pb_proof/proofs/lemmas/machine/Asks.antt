-- If the proof machine may allocate at a byte, that byte is at a position of its statement that may allocate.
use Rattle.pb_proof.proofs.Common.{ℕ, ◌++◌, List, None, refl, Some, sym, true, at, idle, Asks, ◌∙◌, [], ◌∷◌, ap, bytes, ◌≡◌, conclusion_first}
use Rattle.pb_proof.proofs.Common.{proof_transition as transition, proof_within as is_within, ProofAction as Action, ProofPhase as Phase, Go, Stage, begin}
use Rattle.pb_proof.proofs.Common.{false, subst, arith, Walks, never, Letter, LineKind, proofs, IsTrue, MayAsk, Statement, pol_first, IsProof, rup_first}
use Rattle.pb_proof.proofs.Common.{AsksAfter, FirstWord, Automaton, false≢true, line_first, SpellsRest, ProofState, LineMachine, stage_after, Opening}
use Rattle.pb_proof.proofs.Common.{prefixes_of, reads_after, bytes-append, ReadsStatement, formula_first, delete_first, solution_first, line_automaton}
use Rattle.pb_proof.proofs.lemmas.{Carried.Carries, Carried.walks_out, Carried.reads_out, conclusion.Theorems.conclusion_asked}
use Rattle.pb_proof.proofs.lemmas.line.Laws.{line_only, formula_carries, pol_carries, rup_carries, soli_carries, solx_carries, delete_carries}
use Rattle.pb_proof.proofs.lemmas.{line.Laws.conclusion_carries, Delete.delete_asked, Formula.formula_silent, Solution.solution_asked, line.Asks.rup_asked, pol.Theorems.pol_asked}
use Rattle.pb_proof.proofs.lemmas.machine.{Complete.line_nests, Complete.is_giving, Exact.reads_proofs, Exact.comment_reads}
use Rattle.{pb_proof.specs.engine.machine.State.asks, pb_text.specs.meaning.Asking.AsksOnly}
use Rattle.pb_text.proofs.lemmas.machine.Asked as asked
use Rattle.pb_proof.specs.engine.machine.State as state
use Rattle.pb_proof.proofs.lemmas.machine.Sound as sound

module _ (limit top : ℕ) where
  -- what the line machine asks for, the machine of the line asks for
  within : {S E : Type 0} (m : Automaton S E) (into : S → LineMachine) (event : E → Statement) → Carries m line_automaton into event → (start : S)
      → (q more : List Letter) (l : Letter) (i last : LineMachine) (e : Statement) → Walks line_automaton (into start) q i → ReadsStatement line_automaton i (l ∷ more) e last
      → line_automaton.asks i l.byte ≡ true
      → ((s after : S) (v : E) → Walks m start q s → ReadsStatement m s (l ∷ more) v after → m.asks s l.byte ≡ true → AsksAfter (event v) (bytes q) l.byte) → AsksAfter e (bytes q) l.byte
  within m into event c start q more l i last e w r h f =
      let (s, is, k) = walks_out m line_automaton into event (λ e. into) c.nests q start i w in
      let (v, after, same, j) = reads_out _ _ _ _ _ c.nests (l ∷ more) s e last (subst (λ x. ReadsStatement line_automaton x (l ∷ more) e last) is r) in
      subst (λ y. AsksAfter y (bytes q) l.byte) (sym same) (f s after v k j (sym (c.asks s l.byte) ∙ subst (λ x. line_automaton.asks x l.byte ≡ true) is h))

  -- after the first word
  line_asks : (r : LineKind) (q more : List Letter) (l : Letter) (i last : LineMachine) (e : Statement) → Walks line_automaton (line_first limit top r) q i → ReadsStatement line_automaton i (l ∷ more) e last
      → line_automaton.asks i l.byte ≡ true → AsksAfter e (bytes q) l.byte
  line_asks LineKind.Formula q more l i last e w r h = within _ _ _ formula_carries (formula_first limit top) q more l i last e w r h (λ s after v k j a. absurd (formula_silent limit top q s l.byte k a))
  line_asks LineKind.Pol q more l i last e w r h = within _ _ _ pol_carries (pol_first limit top) q more l i last e w r h (λ s after v k j a. pol_asked limit top q s l.byte k a)
  line_asks LineKind.Rup q more l i last e w r h = within _ _ _ rup_carries (rup_first limit) q more l i last e w r h (λ s after v k j a. rup_asked limit top q s l.byte k a)
  line_asks LineKind.Soli q more l i last e w r h = within _ _ _ soli_carries (solution_first limit top) q more l i last e w r h (λ s after v k j a. solution_asked limit top q s l.byte k a)
  line_asks LineKind.Solx q more l i last e w r h = within _ _ _ solx_carries (solution_first limit top) q more l i last e w r h (λ s after v k j a. solution_asked limit top q s l.byte k a)
  line_asks LineKind.Delete q more l i last e w r h = within _ _ _ delete_carries (delete_first limit top) q more l i last e w r h (λ s after v k j a. delete_asked limit top q s l.byte k a)
  line_asks LineKind.Conclusion q more l i last e w r h =
      within _ _ _ conclusion_carries (conclusion_first limit top) q more l i last e w r h (λ s after v k j a. conclusion_asked limit top q more l s after v k j a)

  -- the first word of a statement that may allocate
  first_word : (r : LineKind) (e : Statement) (t word : List Letter) (text : List ℕ) (b : ℕ) → SpellsRest limit top r e t → sound.Before r word → AsksAfter e text b → FirstWord e word
  first_word r e t word text b h k a = grind arith

  -- After the first word, the line machine reads.
  inside_reads : (t : List Letter) (s : ProofState) (r : LineKind) (i : LineMachine) (e : Statement) (next : ProofState) → s.phase ≡ Phase.Inside r → s.line ≡ Some i → ReadsStatement proofs s t e next
      → (last : LineMachine) × ReadsStatement line_automaton i t e last
  inside_reads t s r i e next p o h =
      let (v, last, same, k) = reads_out _ _ _ _ _ (line_nests s.limit s.top r) t i e next (subst (λ x. ReadsStatement proofs x t e next) (is_giving s r i p o) h) in
      (last, subst (λ v. ReadsStatement line_automaton i t v last) (sym same) k)

  -- ---- between two statements
  abbrev Idle : ProofState → Type 0
  Idle s = (p : Phase) × (s ≡ at limit top p) × (is_within p ≡ false)

  gaps : (s next : ProofState) (b : ℕ) → Idle s → proofs.step s b ≡ Go next → proofs.begun next ≡ false → Idle next × (proofs.asks s b ≡ false)
  gaps s next b h g o = grind (arith, never)

  from_idle : (A : Type 0) (p : Phase) (t : List Letter) (e : Statement) (next : ProofState) → is_within p ≡ false → ReadsStatement proofs (at limit top p) t e next
      → ((st : Stage) → p ≡ Phase.Between st → A) → A
  from_idle A p t e next i r f = grind (arith, comment_reads, never)

  ends : (s next : ProofState) (t : List Letter) (e : Statement) → Idle s → ReadsStatement proofs s t e next → Idle next
  ends s next t e (p, same, i) r =
      let h : ReadsStatement proofs (at limit top p) t e next = subst (λ x. ReadsStatement proofs x t e next) same r in
      from_idle (Idle next) p t e next i h
      (λ st is. (Phase.Between (stage_after e), (sound.statement_only limit top st t e next (subst (λ q. ReadsStatement proofs (at limit top q) t e next) is h)).2, refl))

  -- without a line machine, no byte may allocate
  quiet : (s : ProofState) (b : ℕ) (m : Action) → s.line ≡ None → asks s b m ≡ false
  quiet s b m e = grind (arith, state.asked)

  module _ (st : Stage) (s next : ProofState) (p more : List Letter) (l : Letter) (e : Statement) (r : ReadsStatement proofs s (l ∷ more) e next) where
    silent : {A : Type 0} (q : Phase) → s.line ≡ None → asks s l.byte (transition q l.byte) ≡ true → A
    silent q o h = absurd (false≢true (sym (quiet s l.byte (transition q l.byte) o) ∙ h))

    by_phase : (q : Phase) → s.phase ≡ q → sound.prefix_in limit top st s q p → asks s l.byte (transition q l.byte) ≡ true → Asks e (bytes p) l.byte
    by_phase (Phase.Comment x) f k h = absurd k
    by_phase (Phase.Spelling w j) f k h = silent (Phase.Spelling w j) k.4 h
    by_phase (Phase.OutputEnd true) f k h = silent (Phase.OutputEnd true) k.2 h
    by_phase (Phase.Inside x) f (same, (i, o, (word, c, is, before, w))) h =
        let (last, v) = inside_reads (l ∷ more) s x i e next f o r in
        let a : line_automaton.asks i l.byte ≡ true = sym (ap (state.asked false (λ j. line_automaton.asks j l.byte)) o) ∙ h in
        let b : AsksAfter e (bytes c) l.byte = line_asks x c more l i last e w v a in
        let spelled : SpellsRest limit top x e (c ++ l ∷ more) = line_only limit top x (c ++ l ∷ more) e last (reads_after line_automaton c (l ∷ more) (line_first limit top x) i last e w v) in
        (word, bytes c, first_word x e (c ++ l ∷ more) word (bytes c) l.byte spelled before b, ap bytes is ∙ bytes-append word c, b)
    by_phase q f k h = silent q k.2 h

  texts : (start s next : ProofState) (prefix more : List Letter) (l : Letter) (e : Statement) → Idle start → Walks proofs start prefix s → ReadsStatement proofs s (l ∷ more) e next
      → IsTrue (proofs.asks s l.byte) → Asks e (bytes prefix) l.byte
  texts start s next prefix more l e (p, same, i) w r a =
      let walk : Walks proofs (at limit top p) prefix s = subst (λ x. Walks proofs x prefix s) same w in
      from_idle (Asks e (bytes prefix) l.byte) p (prefix ++ l ∷ more) e next i (reads_after proofs prefix (l ∷ more) (at limit top p) s next e walk r)
      (λ st is.
      let k : sound.Read limit top st s prefix = prefixes_of proofs (sound.Read limit top st) (sound.IsStatement limit top st) (sound.keeps limit top st) prefix (idle limit top st) [] s
      (subst (λ q. Walks proofs (at limit top q) prefix s) is walk) ((refl, refl), (refl, refl, refl)) in
      by_phase st s next prefix more l e r s.phase refl k.1 a)

  -- after these bytes of a proof
  pub asks_only : (used : List ℕ) (b : ℕ) → MayAsk proofs (begin limit top) used b → AsksOnly (IsProof limit top) Asks used b
  asks_only used b (s, lead, a) items more h e =
      asked.asks_within proofs Idle Asks (record { gaps = gaps; ends = ends; texts = texts }) (begin limit top) used b (Phase.Between Opening, refl, refl) s lead a items more ((reads_proofs limit top items).1 h) e
