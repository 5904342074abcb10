-- What the proof machine reads from a stage is a statement of that stage.
use Rattle.pb_proof.proofs.Common.{ℕ, and_parts, cond_both, ends_walk, Statement, step_line, soli_word, solx_word, ◌&&◌, walks_more, line_first}
use Rattle.pb_proof.proofs.Common.{SpellsRest, next_stage, ProofState, ◌++◌, pol_word, rup_word, stage_of, ◌+◌, ◌-◌, ◌<◌, ◌∙◌, ◌∷◌, ◌≡◌, None, refl, Some}
use Rattle.pb_proof.proofs.Common.{sym, take, true, Next, idle, [], eqb-true, take_all, reported, none_yet, is_blank, Language, LineKind, Complete, sol_word}
use Rattle.pb_proof.proofs.Common.{words_of, add-one, line_automaton, step_keyword, ap, On, End, Go, ◌⋅◌, act, at, arith, slice_index, as_unmarked}
use Rattle.pb_proof.proofs.Common.{LineMachine, next_action, stage_after, Bool, false, nat_eq, Refuse, Letter, proofs, f_word, length}
use Rattle.pb_proof.proofs.Common.{further, Keyword, Closing, Formula, Opening, List, rules, subst, Keeps, Walks, never, grown, Bytes, Stage, Steps, asked}
use Rattle.pb_proof.proofs.Common.{enter, meets, take-suc, ReadsStatement, SpellsStatement, proof_spell as spell, proof_over as over, ProofPhase as Phase}
use Rattle.pb_proof.proofs.Common.{conclusion_word, proof_between as between, proof_transition as transition, ProofAction as Action}
use Rattle.pb_proof.proofs.lemmas.Spaced.{Spaced, one_met, spaced_more, spaced_blank, KeywordWords, keyword_only, some_byte}
use Rattle.pb_lines.proofs.lemmas.Ends.{Gapped, blank_more, gapped, Closing as Closed, semicolon_after_blanks, blank_closing, line_after_blanks}
use Rattle.pb_lines.proofs.lemmas.Ends.{line_closing, feed_after_blanks}
use Rattle.pb_proof.proofs.lemmas.line.Laws.{line_only, line_begins, line_fresh}

-- What the machine reads from a stage is a statement of that stage.

-- the stage of a statement, by its first words and by the kind of its line
abbrev pub stage_keyword : Keyword → Stage
stage_keyword Keyword.Header = Opening
stage_keyword Keyword.Formula = Formula
stage_keyword Keyword.Conclusion = Stage.Concluding
stage_keyword Keyword.End = Closing
stage_keyword _ = Steps

abbrev pub stage_rest : LineKind → Stage
stage_rest LineKind.Formula = Formula
stage_rest LineKind.Conclusion = Stage.Concluding
stage_rest _ = Steps

-- the words before the text that a line machine reads
abbrev pub Before : LineKind → Language
Before LineKind.Formula = Bytes f_word
Before LineKind.Pol = Bytes pol_word
Before LineKind.Rup = Bytes rup_word
Before LineKind.Soli = Bytes soli_word
Before LineKind.Solx = Bytes solx_word
Before LineKind.Delete = KeywordWords Keyword.Delete
Before LineKind.Conclusion = Bytes conclusion_word

-- words, one letter at a time
word_further : (w : List ℕ) (k : ℕ) (l : Letter) (p : List Letter) → k < length w → meets (slice_index w k) l.byte ≡ true → l.numeral ≡ false
    → Spaced (take k w) p → Spaced (take (k + 1) w) (p ++ l ∷ [])
word_further w k l p h e n s =
    subst (λ x. Spaced x (p ++ l ∷ [])) (sym (take-suc w k 0 h) ∙ ap (λ j. take j w) (sym (add-one k)))
    (spaced_more (take k w) (slice_index w k) p l s (one_met (slice_index w k) l e n))

word_blank : (w : List ℕ) (k : ℕ) (l : Letter) (p : List Letter) → 0 < k → k < length w → nat_eq (slice_index w (k - 1)) 32 ≡ true → is_blank l.byte ≡ true → l.numeral ≡ false
    → Spaced (take k w) p → Spaced (take k w) (p ++ l ∷ [])
word_blank w k l p some h e b n s =
    let j : (k - 1) + 1 ≡ k = omega arith in
    let same : take k w ≡ take (k - 1) w ++ 32 ∷ [] =
    ap (λ i. take i w) (sym j ∙ add-one (k - 1)) ∙ (take-suc w (k - 1) 0 (omega arith) ∙ ap (λ x. take (k - 1) w ++ x ∷ []) (eqb-true (slice_index w (k - 1)) 32 e)) in
    rw same (spaced_blank (take (k - 1) w) p l b n (subst (λ x. Spaced x p) same s))

module _ (limit top : ℕ) (here : Stage) where
  -- What has been read, by phase.
  abbrev pub prefix_in : ProofState → Phase → Language
  prefix_in s (Phase.Between at) = λ p. (at ≡ here) × (p ≡ []) × (s.line ≡ None)
  prefix_in s (Phase.Comment at) = λ p. ⊥
  prefix_in s (Phase.Spelling f k) = λ p. (stage_keyword f ≡ here) × (0 < k) × (k < length (words_of f)) × Spaced (take k (words_of f)) p × (s.line ≡ None)
  prefix_in s Phase.Solution = λ p. (Steps ≡ here) × Bytes sol_word p × (s.line ≡ None)
  prefix_in s Phase.HeaderEnd = λ p. (Opening ≡ here) × Gapped (KeywordWords Keyword.Header) p × (s.line ≡ None)
  prefix_in s (Phase.OutputEnd true) = λ p. (Steps ≡ here) × Gapped (KeywordWords Keyword.Output) p × (s.line ≡ None)
  prefix_in s (Phase.OutputEnd false) = λ p. (Steps ≡ here) × Closed (KeywordWords Keyword.Output) p × (s.line ≡ None)
  prefix_in s (Phase.Inside r) = λ p. (stage_rest r ≡ here) × ((i : LineMachine) × (s.line ≡ Some i) × (Before r ⋅ (λ q. Walks line_automaton (line_first limit top r) q i)) p)

  abbrev pub Known : ProofState → Type 0
  Known s = (s.limit ≡ limit) × (s.top ≡ top)

  abbrev pub Read : ProofState → Language
  Read s = λ p. Known s × prefix_in s s.phase p

  -- a statement of the stage, and the state after it
  abbrev pub IsStatement : Statement → ProofState → Language
  IsStatement e after = λ t. (stage_of e ≡ here) × SpellsStatement limit top e t × (after ≡ idle limit top (stage_after e))

  same_idle : (l t : ℕ) (a b : Stage) → l ≡ limit → t ≡ top → a ≡ b → idle l t a ≡ idle limit top b
  same_idle l t a b e f g = rw (e, f, g) refl

  -- The words and the rest of the line make a statement.
  rest_statement : (r : LineKind) (e : Statement) (t : List Letter) → (Before r ⋅ SpellsRest limit top r e) t
      → (stage_of e ≡ stage_rest r) × SpellsStatement limit top e t × (next_stage r ≡ stage_after e)
  rest_statement r e t h = grind arith

  module _ (s : ProofState) (l : Letter) (p : List Letter) (k : Known s) where
    -- what holds of an outcome, and after a move
    abbrev Leaves : Next ProofState Statement → Type 0
    Leaves x = On proofs Read IsStatement x l (p ++ l ∷ [])

    abbrev After : Action → Type 0
    After m = Leaves (act s l.byte m)

    plain_letter : s.line ≡ None → l.numeral ≡ asked false line_automaton.in_number s.line → l.numeral ≡ false
    plain_letter e n = n ∙ ap (asked false line_automaton.in_number) e

    -- a line machine begins
    pub begins : (r : LineKind) → stage_rest r ≡ here → (l.numeral ≡ false → Before r (p ++ l ∷ [])) → After (Action.Begin r)
    begins r at h = search (rules, none_yet, line_fresh)

    -- all words have been read
    whole : s.line ≡ None → (f : Keyword) → stage_keyword f ≡ here → (l.numeral ≡ false → KeywordWords f (p ++ l ∷ [])) → After (next_action f)
    whole o Keyword.Header at h = λ w n. (k, (at, gapped (KeywordWords Keyword.Header) (p ++ l ∷ []) (h (plain_letter o n)), o))
    whole o Keyword.Solution at h = λ w n. (k, (at, h (plain_letter o n), o))
    whole o Keyword.Output at h = λ w n. (k, (at, gapped (KeywordWords Keyword.Output) (p ++ l ∷ []) (h (plain_letter o n)), o))
    whole o Keyword.End at h = λ n. (at, h n, same_idle s.limit s.top Complete Complete k.0 k.1 refl)
    whole o _ at h = search (rules, begins)

    -- the next byte of the words
    spells : s.line ≡ None → (f : Keyword) → stage_keyword f ≡ here → (j : ℕ) → j < length (words_of f) → Spaced (take j (words_of f)) p → (other : Action) → After other
        → After (spell f j l.byte other)
    spells o f at j h q other else = cond_both (meets (slice_index (words_of f) j) l.byte) _ _ After
        (λ e. cond_both (nat_eq (j + 1) (length (words_of f))) _ _ After
        (λ g. whole o f at (λ n. keyword_only f (p ++ l ∷ [])
        (subst (λ x. Spaced x (p ++ l ∷ [])) (take_all (j + 1) (words_of f) (omega (arith, eqb-true (j + 1) (length (words_of f)) g))) (word_further (words_of f) j l p h e n q))))
        (λ g w n. (k, (at, omega arith, further j (length (words_of f)) h g, word_further (words_of f) j l p h e (plain_letter o n) q, o))))
        (λ _. else)

    spelling : (f : Keyword) (j : ℕ) → stage_keyword f ≡ here → 0 < j → j < length (words_of f) → Spaced (take j (words_of f)) p → s.line ≡ None
        → After (transition (Phase.Spelling f j) l.byte)
    spelling f j at some h q o = spells o f at j h q _
        (cond_both (is_blank l.byte && nat_eq (slice_index (words_of f) (j - 1)) 32) _ _ After
        (λ e w n.
        let g = and_parts (is_blank l.byte) (nat_eq (slice_index (words_of f) (j - 1)) 32) e in
        (k, (at, some, h, word_blank (words_of f) j l p some h g.1 g.0 (plain_letter o n) q, o)))
        (λ _. tt))

    pub first : s.line ≡ None → p ≡ [] → (f : Keyword) → stage_keyword f ≡ here → After (spell f 0 l.byte Action.Stop)
    first o e f at = spells o f at 0 (some_byte f) e Action.Stop tt

    keyword_stage : (b : ℕ) → stage_keyword (step_keyword b) ≡ Steps
    keyword_stage b = grind (arith, nat_eq)

    enters_stage : (at : Stage) → at ≡ here → p ≡ [] → s.line ≡ None → After (enter at l.byte)
    enters_stage Opening at e o = first o e Keyword.Header at
    enters_stage at same e o = grind (arith, first, keyword_stage)

    between_two : (at : Stage) → at ≡ here → p ≡ [] → s.line ≡ None → After (between at l.byte)
    between_two Opening at e o = enters_stage Opening at e o
    between_two Complete at e o = tt
    between_two at same e o = grind (arith, never, nat_eq, enters_stage)

    header_ends : Opening ≡ here → Gapped (KeywordWords Keyword.Header) p → s.line ≡ None → After (transition Phase.HeaderEnd l.byte)
    header_ends at h o = cond_both (is_blank l.byte) _ _ After
        (λ e w n. (k, (at, blank_more (KeywordWords Keyword.Header) l p e (plain_letter o n) h, o)))
        (λ _. cond_both (nat_eq l.byte 10) _ _ After
        (λ e n. (at, feed_after_blanks (KeywordWords Keyword.Header) l p (eqb-true l.byte 10 e) n h, same_idle s.limit s.top Formula Formula k.0 k.1 refl))
        (λ _. tt))

    output_ends : (may : Bool) → prefix_in s (Phase.OutputEnd may) p → After (transition (Phase.OutputEnd may) l.byte)
    output_ends true (at, h, o) = cond_both (is_blank l.byte) _ _ After
        (λ e w n. (k, (at, blank_more (KeywordWords Keyword.Output) l p e (plain_letter o n) h, o)))
        (λ _. cond_both (nat_eq l.byte 10) _ _ After
        (λ e n. (at, line_after_blanks (KeywordWords Keyword.Output) l p (eqb-true l.byte 10 e) n h, same_idle s.limit s.top Stage.Concluding Stage.Concluding k.0 k.1 refl))
        (λ _. cond_both (nat_eq l.byte 59 && true) _ _ After
        (λ e w n. (k, (at, semicolon_after_blanks (KeywordWords Keyword.Output) l p (eqb-true l.byte 59 (and_parts (nat_eq l.byte 59) true e).0) (plain_letter o n) h, o)))
        (λ _. tt)))
    output_ends false (at, h, o) = cond_both (is_blank l.byte) _ _ After
        (λ e w n. (k, (at, blank_closing (KeywordWords Keyword.Output) l p e (plain_letter o n) h, o)))
        (λ _. cond_both (nat_eq l.byte 10) _ _ After
        (λ e n. (at, line_closing (KeywordWords Keyword.Output) l p (eqb-true l.byte 10 e) n h, same_idle s.limit s.top Stage.Concluding Stage.Concluding k.0 k.1 refl))
        (λ _. cond_both (nat_eq l.byte 59 && false) _ _ After
        (λ e. never false (and_parts (nat_eq l.byte 59) false e).1 refl)
        (λ _. tt)))

    -- what the line machine does
    given : (r : LineKind) → stage_rest r ≡ here → (i : LineMachine) → (Before r ⋅ (λ q. Walks line_automaton (line_first limit top r) q i)) p → (x : Next LineMachine Statement)
        → line_automaton.step i l.byte ≡ x → Leaves (over s r x)
    given r at i h (Go line) e = λ w n. (
      k,
      (
        at,
        (
          line,
          refl,
          grown (Before r) (λ q. Walks line_automaton (line_first limit top r) q i) (λ q. Walks line_automaton (line_first limit top r) q line) p l
              (λ q g. walks_more line_automaton q l (line_first limit top r) i line g e (line_begins i line l.byte e) n) h,
        ),
      ),
    )
    given r at i h (End e last) f = λ n.
        let t : (Before r ⋅ SpellsRest limit top r e) (p ++ l ∷ []) =
        grown (Before r) (λ q. Walks line_automaton (line_first limit top r) q i) (SpellsRest limit top r e) p l
        (λ q g. line_only limit top r (q ++ l ∷ []) e last (ends_walk line_automaton q l (line_first limit top r) i last e g f n)) h in
        let z = rest_statement r e (p ++ l ∷ []) t in (z.0 ∙ at, z.1, same_idle s.limit s.top (next_stage r) (stage_after e) k.0 k.1 z.2)
    given r at i h Refuse e = tt

    sound : (q : Phase) → prefix_in s q p → After (transition q l.byte)
    sound (Phase.Between at) h = between_two at h.0 h.1 h.2
    sound (Phase.Comment at) h = absurd h
    sound (Phase.Spelling f j) h = spelling f j h.0 h.1 h.2 h.3 h.4
    sound Phase.Solution (at, e, o) = grind (arith, nat_eq, as_unmarked, eqb-true)
    sound Phase.HeaderEnd h = header_ends h.0 h.1 h.2
    sound (Phase.OutputEnd may) h = output_ends may h
    sound (Phase.Inside r) (at, (i, e, h)) = subst (λ x. Leaves (over s r (step_line x l.byte))) (sym e) (given r at i h (line_automaton.step i l.byte) refl)

  pub keeps : Keeps proofs Read IsStatement
  keeps s l p f = sound s l p f.0 s.phase f.1

  pub statement_only : (t : List Letter) (e : Statement) (after : ProofState) → ReadsStatement proofs (idle limit top here) t e after → IsStatement e after t
  statement_only t e after r = reported proofs Read IsStatement keeps t (idle limit top here) [] e after r ((refl, refl), (refl, refl, refl))
