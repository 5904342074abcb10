-- The proof machine reads each statement from its stage.
use Rattle.pb_proof.proofs.lemmas.{Carried.Nests, Carried.reads_in, Spaced.Spaced, Spaced.KeywordWords, Spaced.One, Spaced.chooses, Spaced.keyword_each}
use Rattle.pb_proof.proofs.Common.{ℕ, and_parts, ends_walk, Statement, nat_tests, ◌&&◌, walks_more, line_first, SpellsRest, next_stage, ProofState, append-nil}
use Rattle.pb_proof.proofs.Common.{same_first, walks_then, ◌++◌, stage_of, or-false, not-true, unmarked, ◌+◌, ◌-◌, ◌∙◌, ◌∷◌, ◌≡◌, refl, Some, sym, true, idle}
use Rattle.pb_proof.proofs.Common.{◌||◌, cond, Byte, Each, Feed, [], eqb-true, is_blank, Language, LineKind, Complete, sol_word, words_of, line_automaton}
use Rattle.pb_proof.proofs.Common.{append_assoc, length-append, ap, Go, ◌⋅◌, act, ap₂, not, at, arith, slice_index, LineMachine, next_action, stage_after}
use Rattle.pb_proof.proofs.Common.{reads_after, Bool, false, nat_eq, Letter, proofs, eq-eqb, longer, giving, IsTrue, length, Keyword, Closing, Formula, Opening}
use Rattle.pb_proof.proofs.Common.{LineEnd, Blanks1, List, subst, Walks, Bytes, Stage, Steps, meets, plain, ReadsStatement, SpellsStatement}
use Rattle.pb_proof.proofs.Common.{proof_spell as spell, ProofPhase as Phase, get_or-append_seam, proof_transition as transition, ProofAction as Action}
use Rattle.pb_lines.proofs.lemmas.Ends.{Feeds, feed_reads, MayEnd, line_reads}
use Rattle.pb_proof.proofs.lemmas.line.Laws.{line_begins, line_fresh, line_each}
use Rattle.pb_proof.proofs.lemmas.machine.Sound.{stage_keyword}

-- The machine reads each statement from its stage.

-- In the words, the byte after a space is not a blank.
abbrev dark_first : List ℕ → Bool
dark_first [] = false
dark_first (c ∷ cs) = not (is_blank c)

abbrev is_laid : List ℕ → Bool
is_laid [] = true
is_laid (c ∷ cs) = (not (nat_eq c 32) || dark_first cs) && is_laid cs

words_laid : (f : Keyword) → is_laid (words_of f) ≡ true
words_laid f = grind arith

laid_later : (prefix more : List ℕ) → is_laid (prefix ++ more) ≡ true → is_laid more ≡ true
laid_later [] more h = h
laid_later (c ∷ prefix) more h = laid_later prefix more (and_parts (not (nat_eq c 32) || dark_first (prefix ++ more)) (is_laid (prefix ++ more)) h).1

-- a blank does not match a byte that is not blank
dark_blank : (x b : ℕ) → is_blank x ≡ false → is_blank b ≡ true → meets x b ≡ false
dark_blank x b d h = grind (arith, eqb-true)

-- a byte of the words matches itself
meets_self : (c : ℕ) → nat_eq c 32 ≡ false → meets c c ≡ true
meets_self c e = rw (e, eq-eqb c c refl) refl

-- and so does a space
pub meets_any : (c : ℕ) → meets c c ≡ true
meets_any c = grind (arith, nat_eq, eqb-true, eq-eqb)

-- the state within the text of a line machine
pub is_giving : (s : ProofState) (r : LineKind) (i : LineMachine) → s.phase ≡ Phase.Inside r → s.line ≡ Some i → s ≡ giving s.limit s.top r i
is_giving s r i e h = rw (e, h) refl

module _ (limit top : ℕ) where
  -- after `k` bytes of the words
  abbrev pub spelt : Keyword → ℕ → ProofState
  spelt f k = at limit top (Phase.Spelling f k)

  at_seam : (f : Keyword) (prefix left : List ℕ) (c : ℕ) → words_of f ≡ prefix ++ c ∷ left → slice_index (words_of f) (length prefix) ≡ c
  at_seam f prefix left c e = ap (λ y. slice_index y (length prefix)) e ∙ get_or-append_seam prefix c left 0

  -- the next byte matches; `x` says whether it is the last
  spell_next : (f : Keyword) (prefix left : List ℕ) (c b : ℕ) (x : Bool) (other : Action) → words_of f ≡ prefix ++ c ∷ left → meets c b ≡ true → nat_eq (length prefix + 1) (length (words_of f)) ≡ x
      → spell f (length prefix) b other ≡ cond x (next_action f) (Action.To (Phase.Spelling f (length prefix + 1)))
  spell_next f prefix left c b x other e m n = grind (arith, nat_eq, length, at_seam)

  pub step_on : (f : Keyword) (prefix left : List ℕ) (c d b : ℕ) → words_of f ≡ prefix ++ c ∷ d ∷ left → meets c b ≡ true → proofs.step (spelt f (length prefix)) b ≡ Go (spelt f (length prefix + 1))
  step_on f prefix left c d b e m = ap (act (spelt f (length prefix)) b) (spell_next f prefix (d ∷ left) c b false _ e m
      (grind (arith, length, length-append, nat_tests)))

  pub step_last : (f : Keyword) (prefix : List ℕ) (c b : ℕ) → words_of f ≡ prefix ++ c ∷ [] → meets c b ≡ true → proofs.step (spelt f (length prefix)) b ≡ act (spelt f (length prefix)) b (next_action f)
  step_last f prefix c b e m = ap (act (spelt f (length prefix)) b) (spell_next f prefix [] c b true _ e m (grind (arith, length, length-append, eq-eqb)))

  -- more blanks after a space
  blank_stays : (f : Keyword) (prefix left : List ℕ) (d b : ℕ) → words_of f ≡ prefix ++ 32 ∷ d ∷ left → is_blank b ≡ true → proofs.step (spelt f (length prefix + 1)) b ≡ Go (spelt f (length prefix + 1))
  blank_stays f prefix left d b e h =
      let j : length prefix + 1 ≡ length (prefix ++ 32 ∷ []) = sym (length-append prefix (32 ∷ [])) in
      let g : words_of f ≡ (prefix ++ 32 ∷ []) ++ d ∷ left = e ∙ sym (append_assoc prefix (32 ∷ []) (d ∷ left)) in
      let here : slice_index (words_of f) (length prefix + 1) ≡ d = ap (λ k. slice_index (words_of f) k) j ∙ at_seam f (prefix ++ 32 ∷ []) left d g in
      let after_it : slice_index (words_of f) (length prefix + 1 - 1) ≡ 32 = ap (λ k. slice_index (words_of f) k) (let q : length prefix + 1 - 1 ≡ length prefix = omega arith in q) ∙ at_seam f prefix (d ∷ left) 32 e in
      let dark : is_blank d ≡ false = not-true (is_blank d) (and_parts (not (is_blank d)) (is_laid (d ∷ left)) (laid_later prefix (32 ∷ d ∷ left) (subst (λ x. is_laid x ≡ true) e (words_laid f)))).0 in
      let away : meets (slice_index (words_of f) (length prefix + 1)) b ≡ false = ap (λ x. meets x b) here ∙ dark_blank d b dark h in
      ap (λ x. act (spelt f (length prefix + 1)) b (cond x (cond (nat_eq (length prefix + 1 + 1) (length (words_of f))) (next_action f) (Action.To (Phase.Spelling f (length prefix + 1 + 1)))) (cond (is_blank b && nat_eq (slice_index (words_of f) (length prefix + 1 - 1)) 32) (Action.To (Phase.Spelling f (length prefix + 1))) Action.Stop))) away
      ∙ ap (λ x. act (spelt f (length prefix + 1)) b (cond x (Action.To (Phase.Spelling f (length prefix + 1))) Action.Stop)) (ap₂ (λ x y. x && nat_eq y 32) h after_it)

  blanks_stay : (f : Keyword) (prefix left : List ℕ) (d : ℕ) → words_of f ≡ prefix ++ 32 ∷ d ∷ left → (bs : List ℕ) → Each (λ b. IsTrue (is_blank b)) bs
      → Walks proofs (spelt f (length prefix + 1)) (plain bs) (spelt f (length prefix + 1))
  blanks_stay f prefix left d e [] h = refl
  blanks_stay f prefix left d e (b ∷ bs) h = (spelt f (length prefix + 1), blank_stays f prefix left d b e h.0, refl, refl, blanks_stay f prefix left d e bs h.1)

  -- one byte of the words, or blanks
  one_walks : (f : Keyword) (prefix left : List ℕ) (c d : ℕ) (t : List Letter) → words_of f ≡ prefix ++ c ∷ d ∷ left → One c t → Walks proofs (spelt f (length prefix)) t (spelt f (length prefix + 1))
  one_walks f prefix left c d t e h = by_test (nat_eq c 32) refl h
    where
      by_test : (x : Bool) → nat_eq c 32 ≡ x → chooses x Blanks1 (Byte c) t → Walks proofs (spelt f (length prefix)) t (spelt f (length prefix + 1))
      by_test true s (b, bs, i, j, g) =
          let is : c ≡ 32 = eqb-true c 32 s in
          subst (λ x. Walks proofs (spelt f (length prefix)) x (spelt f (length prefix + 1))) (sym g) (
            spelt f (length prefix + 1),
            step_on f prefix left c d b e (rw (s, i) refl),
            refl,
            refl,
            blanks_stay f prefix left d (e ∙ ap (λ x. prefix ++ x ∷ d ∷ left) is) bs j,
          )
      by_test false s g = rw g (spelt f (length prefix + 1), step_on f prefix left c d c e (meets_self c s), refl, refl, refl)

  -- The last byte of the words is not a space.
  last_dark : (f : Keyword) (init : List ℕ) (c : ℕ) → words_of f ≡ init ++ c ∷ [] → nat_eq c 32 ≡ false
  last_dark f init c e =
      let laid : (not (nat_eq c 32) || false) ≡ true = (and_parts (not (nat_eq c 32) || false) true (laid_later init (c ∷ []) (subst (λ x. is_laid x ≡ true) e (words_laid f)))).0 in
      not-true (nat_eq c 32) (sym (or-false (not (nat_eq c 32))) ∙ laid)

  -- a text of the words after some of their bytes: the walk to its last letter, and the step at that letter
  pub record Spelled (f : Keyword) (from : ℕ) (t : List Letter) : Type 0 where
    pub count : ℕ
    pub text : List Letter
    pub final : ℕ
    pub text_is : t ≡ text ++ unmarked final ∷ []
    pub walks : Walks proofs (spelt f from) text (spelt f count)
    pub last : proofs.step (spelt f count) final ≡ act (spelt f count) final (next_action f)

  pub spelled : (f : Keyword) (prefix left : List ℕ) (c : ℕ) (t : List Letter) → words_of f ≡ prefix ++ c ∷ left → Spaced (c ∷ left) t → Spelled f (length prefix) t
  spelled f prefix [] c t e (a, b, g, h, i) =
      let dark = last_dark f prefix c e in
      let is : a ≡ unmarked c ∷ [] = subst (λ x. chooses x Blanks1 (Byte c) a) dark h in
      record {
        count = length prefix;
        text = [];
        final = c;
        text_is = g ∙ (ap (λ x. a ++ x) i ∙ (append-nil a ∙ is));
        walks = refl;
        last = step_last f prefix c c e (meets_self c dark);
      }
  spelled f prefix (d ∷ left) c t e (a, b, g, h, i) =
      let s : Spelled f (length (prefix ++ c ∷ [])) b = spelled f (prefix ++ c ∷ []) left d b (e ∙ sym (append_assoc prefix (c ∷ []) (d ∷ left))) i in
      record {
        count = s.count;
        text = a ++ s.text;
        final = s.final;
        text_is = g ∙ (ap (λ x. a ++ x) s.text_is ∙ sym (append_assoc a s.text (unmarked s.final ∷ [])));
        walks = walks_then proofs a s.text (spelt f (length prefix)) (spelt f (length prefix + 1)) (spelt f s.count) (one_walks f prefix left c d a e h)
            (subst (λ k. Walks proofs (spelt f k) s.text (spelt f s.count)) (length-append prefix (c ∷ [])) s.walks);
        last = s.last;
      }

  spelled_words : (f : Keyword) (t : List Letter) → Spaced (words_of f) t → Spelled f 0 t
  spelled_words Keyword.Header t h = spelled Keyword.Header [] _ _ t refl h
  spelled_words f t h = spelled f [] _ _ t refl h

  -- From the stage, the first byte of the words has the same step as within the words.
  abbrev first_byte : Keyword → ℕ
  first_byte f = slice_index (words_of f) 0

  begins_with : (f : Keyword) (t : List Letter) → Spaced (words_of f) t → (u : List Letter) × (t ≡ unmarked (first_byte f) ∷ u)
  begins_with f t h = grind arith

  -- From the stage, the words and the text after them are read.
  entered : (f : Keyword) (t u : List Letter) (e : Statement) (after : ProofState) → Spaced (words_of f) t → ReadsStatement proofs (spelt f 0) (t ++ u) e after
      → ReadsStatement proofs (idle limit top (stage_keyword f)) (t ++ u) e after
  entered f t u e after h r =
      let (v, g) = begins_with f t h in
      rw g (same_first proofs (unmarked (first_byte f)) (v ++ u) (idle limit top (stage_keyword f)) (spelt f 0) after e (grind (arith, f))
      (subst (λ x. ReadsStatement proofs (spelt f 0) (x ++ u) e after) g r))

  words_then : (f : Keyword) (next : ProofState) → ((k b : ℕ) → act (spelt f k) b (next_action f) ≡ Go next) → proofs.begun next ≡ true → proofs.in_number next ≡ false
      → (t u : List Letter) (e : Statement) (after : ProofState) → KeywordWords f t → ReadsStatement proofs next u e after → ReadsStatement proofs (idle limit top (stage_keyword f)) (t ++ u) e after
  words_then f next g w n t u e after h r =
      let spaced : Spaced (words_of f) t = keyword_each f t h in
      let s : Spelled f 0 t = spelled_words f t spaced in
      entered f t u e after spaced
      (reads_after proofs t u (spelt f 0) next after e
      (subst (λ x. Walks proofs (spelt f 0) x next) (sym s.text_is)
      (walks_more proofs s.text (unmarked s.final) (spelt f 0) (spelt f s.count) next s.walks (s.last ∙ g s.count s.final) w (sym n))) r)

  words_end : (t : List Letter) → KeywordWords Keyword.End t → ReadsStatement proofs (idle limit top Closing) t Statement.End (idle limit top Complete)
  words_end t h =
      let spaced : Spaced (words_of Keyword.End) t = keyword_each Keyword.End t h in
      let s : Spelled Keyword.End 0 t = spelled_words Keyword.End t spaced in
      let r : ReadsStatement proofs (spelt Keyword.End 0) t Statement.End (idle limit top Complete) =
      rw s.text_is
      (ends_walk proofs s.text (unmarked s.final) (spelt Keyword.End 0) (spelt Keyword.End s.count) (idle limit top Complete) Statement.End s.walks s.last refl) in
      subst (λ x. ReadsStatement proofs (idle limit top Closing) x Statement.End (idle limit top Complete)) (append-nil t)
      (entered Keyword.End t [] Statement.End (idle limit top Complete) spaced
      (subst (λ x. ReadsStatement proofs (spelt Keyword.End 0) x Statement.End (idle limit top Complete)) (sym (append-nil t)) r))

  -- the states at the ends of lines
  abbrev pub header_end : ProofState
  header_end = at limit top Phase.HeaderEnd

  abbrev pub output_end : Bool → ProofState
  output_end may = at limit top (Phase.OutputEnd may)

  output_feeds : (may : Bool) → Feeds proofs (output_end may) (output_end may) Statement.Output (idle limit top Stage.Concluding)
  output_feeds may = grind arith

  output_may : MayEnd proofs (output_end true) (output_end true) (output_end false) Statement.Output (idle limit top Stage.Concluding)
  output_may = record { feeds = output_feeds true; finishes = refl; closes_gap = refl; last = output_feeds false }

  -- what the line machine reads, the proof machine reads
  pub line_nests : (r : LineKind) → Nests line_automaton proofs (giving limit top r) (λ e. e) (λ e i. idle limit top (next_stage r))
  line_nests r = record { step = λ i b. refl; begins = line_begins; begun = λ i h. refl; in_number = λ i. refl }

  rest_reads : (r : LineKind) (t : List Letter) (e : Statement) → SpellsRest limit top r e t → ReadsStatement proofs (giving limit top r (line_first limit top r)) t e (idle limit top (next_stage r))
  rest_reads r t e h = let (last, k) = line_each limit top r t e h in reads_in line_automaton proofs _ _ _ (line_nests r) t (line_first limit top r) e last k

  plain_first : (r : LineKind) → proofs.in_number (giving limit top r (line_first limit top r)) ≡ false
  plain_first r = (line_fresh limit top r).2

  abbrev begun_rest : LineKind → ProofState
  begun_rest r = giving limit top r (line_first limit top r)

  by_parts : (P Q : Language) (t : List Letter) (e : Statement) (s after : ProofState) → ((a b : List Letter) → P a → Q b → ReadsStatement proofs s (a ++ b) e after) → (P ⋅ Q) t → ReadsStatement proofs s t e after
  by_parts P Q t e s after f (a, b, g, h, k) = rw g (f a b h k)

  -- words, and the line that begins after them
  line_then : (f : Keyword) (r : LineKind) (t : List Letter) (e : Statement) → next_action f ≡ Action.Begin r → (KeywordWords f ⋅ SpellsRest limit top r e) t
      → ReadsStatement proofs (idle limit top (stage_keyword f)) t e (idle limit top (next_stage r))
  line_then f r t e g =
      by_parts (KeywordWords f) (SpellsRest limit top r e) t e (idle limit top (stage_keyword f)) (idle limit top (next_stage r))
      (λ a b i k. words_then f (begun_rest r) (λ j d. ap (act (spelt f j) d) g) refl (plain_first r) a b e (idle limit top (next_stage r)) i (rest_reads r b e k))

  -- `soli` and `solx`
  solution_then : (b : ℕ) (r : LineKind) (t : List Letter) (e : Statement) → transition Phase.Solution b ≡ Action.Begin r → (Bytes (sol_word ++ b ∷ []) ⋅ SpellsRest limit top r e) t
      → ReadsStatement proofs (idle limit top Steps) t e (idle limit top (next_stage r))
  solution_then b r t e g =
      by_parts (Bytes (sol_word ++ b ∷ [])) (SpellsRest limit top r e) t e (idle limit top Steps) (idle limit top (next_stage r)) (λ a u f k. rw f
      (words_then Keyword.Solution (at limit top Phase.Solution) (λ j c. refl) refl refl (plain sol_word) (unmarked b ∷ u) e (idle limit top (next_stage r)) refl
      (longer proofs (unmarked b) u (at limit top Phase.Solution) (begun_rest r) (idle limit top (next_stage r)) e (ap (act (at limit top Phase.Solution) b) g) refl (sym (plain_first r)) (rest_reads r u e k))))

  -- The machine reads each statement.
  pub statement_each : (t : List Letter) (e : Statement) → SpellsStatement limit top e t → ReadsStatement proofs (idle limit top (stage_of e)) t e (idle limit top (stage_after e))
  statement_each t Statement.Header h =
      by_parts (KeywordWords Keyword.Header) Feed t Statement.Header (idle limit top Opening) (idle limit top Formula)
      (λ a b i k. words_then Keyword.Header header_end (λ j c. refl) refl refl a b Statement.Header (idle limit top Formula) i
      (feed_reads proofs header_end header_end (idle limit top Formula) Statement.Header (grind arith) b k)) h
  statement_each t (Statement.F c) h = line_then Keyword.Formula LineKind.Formula t (Statement.F c) refl h
  statement_each t (Statement.Pol c) h = line_then Keyword.Pol LineKind.Pol t (Statement.Pol c) refl h
  statement_each t (Statement.Rup c) h = line_then Keyword.Rup LineKind.Rup t (Statement.Rup c) refl h
  statement_each t (Statement.Soli c) h = solution_then 105 LineKind.Soli t (Statement.Soli c) refl h
  statement_each t (Statement.Solx c) h = solution_then 120 LineKind.Solx t (Statement.Solx c) refl h
  statement_each t (Statement.Delete c) h = line_then Keyword.Delete LineKind.Delete t (Statement.Delete c) refl h
  statement_each t Statement.Output h =
      by_parts (KeywordWords Keyword.Output) LineEnd t Statement.Output (idle limit top Steps) (idle limit top Stage.Concluding)
      (λ a b i k. words_then Keyword.Output (output_end true) (λ j d. refl) refl refl a b Statement.Output (idle limit top Stage.Concluding) i
      (line_reads proofs (output_end true) (output_end true) (output_end false) (idle limit top Stage.Concluding) Statement.Output output_may b k)) h
  statement_each t (Statement.Conclude c) h = line_then Keyword.Conclusion LineKind.Conclusion t (Statement.Conclude c) refl h
  statement_each t Statement.End h = words_end t h
