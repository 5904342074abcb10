-- What the proof machine accepts from a stage is the statements in order.
use Rattle.pb_proof.{specs.contract.Formats.OneProof}
use Rattle.pb_proof.proofs.Common.{ℕ, Statement, go_or_end, Conclusion, AreSpelled, ◌&&◌, ProofState, append-nil, white_each, in_comment, ◌++◌, stage_of}
use Rattle.pb_proof.proofs.Common.{SkipsGap, is_white, IsStaged, All-cons, All-head, All-tail, ◌∙◌, ◌∷◌, ◌≡◌, refl, sym, true, Next, idle, ◌||◌, cond, Item}
use Rattle.pb_proof.proofs.Common.{[], eqb-true, Complete, one_state, events_of, append_assoc, refuse_or_end, refuse_or_go, AcceptsItems, statements_of, ap}
use Rattle.pb_proof.proofs.Common.{End, Go, act, not, at, ◌↔◌, All, F, arith, slice_index, stage_after, is_complete, one_spelling, BeginsAtOnce, Bool, false}
use Rattle.pb_proof.proofs.Common.{nat_eq, Refuse, Letter, proofs, IsTrue, Header, Output, IsProof, IsStep, length, Closing, Formula, Opening, or-true}
use Rattle.pb_proof.proofs.Common.{IsBlank, Nothing, HasGaps, All-nil, Conclude, List, subst, never, Stage, Steps, enter, IsGap, GapAt, Proof, begin}
use Rattle.pb_proof.proofs.Common.{ReadsStatement, SpellsStatement, ProofPhase as Phase, ProofAction as Action, proof_within as is_within}
use Rattle.pb_proof.proofs.lemmas.machine.{Complete.spelled, Complete.statement_each, Sound.first, Sound.statement_only}
use Rattle.pb_text.proofs.lemmas.text.Blanks.{blank_passes, in_comment-snoc, IsBlank-snoc, passes_at}

-- What the machine accepts from a stage is the statements in order.

abbrev pub Inside : Action → Type 0
Inside (Action.To p) = is_within p ≡ true
Inside _ = Unit {0}

pub enter_inside : (s : Stage) (b : ℕ) → Inside (enter s b)
enter_inside s b = grind (arith, slice_index, nat_eq, length)

-- no statement begins in a comment
pub comment_reads : (limit top : ℕ) (s : Stage) (t : List Letter) (e : Statement) (after : ProofState) → ReadsStatement proofs (at limit top (Phase.Comment s)) t e after → ⊥
comment_reads limit top s [] e after r = r
comment_reads limit top s (l ∷ []) e after (h, n) = go_or_end _ e after h
comment_reads limit top s (l ∷ k ∷ t) e after (mid, h, o, n, r) = grind (arith, never, one_state, nat_eq)

module _ (limit top : ℕ) (s : Stage) (gaps : HasGaps s) where
  -- the state within a comment, or outside one
  abbrev pub gap_state : Bool → ProofState
  gap_state commented = at limit top (cond commented (Phase.Comment s) (Phase.Between s))

  -- the outcome of a byte of white space and comments
  abbrev InGap : (ProofState → Type 0) → Next ProofState Statement → Type 0
  InGap P (Go mid) = proofs.begun mid ≡ false → P mid
  InGap P (End e after) = Unit {0}
  InGap P Refuse = Unit {0}

  abbrev next_mode : ℕ → Bool → Bool
  next_mode b commented = not (nat_eq b 10) && (nat_eq b 42 || commented)

  abbrev passed : ℕ → Bool → Bool
  passed b commented = is_white b || nat_eq b 42 || commented

  abbrev Leads : ℕ → Bool → ProofState → Type 0
  Leads b commented mid = (passed b commented ≡ true) × (mid ≡ gap_state (next_mode b commented))

  white_mode : (b : ℕ) → is_white b ≡ true → next_mode b false ≡ false
  white_mode b h = white_each (λ x. next_mode x false ≡ false) refl refl refl refl b h

  star_mode : (b : ℕ) → nat_eq b 42 ≡ true → next_mode b false ≡ true
  star_mode b h = subst (λ x. next_mode x false ≡ true) (sym (eqb-true b 42 h)) refl

  gap_step : (commented : Bool) (b : ℕ) → passed b commented ≡ true → proofs.step (gap_state commented) b ≡ Go (gap_state (next_mode b commented))
  gap_step commented b h = grind (arith, nat_eq, not, or-true, white_mode, star_mode, never)

  gap_byte : (commented : Bool) (b : ℕ) → InGap (Leads b commented) (proofs.step (gap_state commented) b)
  gap_byte commented b = grind (arith, or-true, nat_eq, gap_step, white_mode, star_mode, never, enter_inside)

  mode_after : (before : List ℕ) (b : ℕ) → next_mode b (in_comment before) ≡ in_comment (before ++ b ∷ [])
  mode_after before b = sym (in_comment-snoc before b)

  gap_only : (gap before : List ℕ) (mid : ProofState) → SkipsGap proofs (gap_state (in_comment before)) gap mid → IsBlank before
      → IsBlank (before ++ gap) × (mid ≡ gap_state (in_comment (before ++ gap)))
  gap_only [] before mid h blank = (subst IsBlank (sym (append-nil before)) blank, h ∙ ap (λ x. gap_state (in_comment x)) (sym (append-nil before)))
  gap_only (b ∷ gap) before mid (next, g, o, h) blank =
      let on : InGap (Leads b (in_comment before)) (Go next) = subst (λ x. InGap (Leads b (in_comment before)) x) g (gap_byte (in_comment before) b) in
      let f : Leads b (in_comment before) next = on o in
      let k = gap_only gap (before ++ b ∷ []) mid (subst (λ x. SkipsGap proofs x gap mid) (f.1 ∙ ap gap_state (mode_after before b)) h) (IsBlank-snoc before b blank f.0) in
      subst (λ x. IsBlank x × (mid ≡ gap_state (in_comment x))) (append_assoc before (b ∷ []) gap) k

  gap_each : (gap before : List ℕ) → IsBlank (before ++ gap) → SkipsGap proofs (gap_state (in_comment before)) gap (gap_state (in_comment (before ++ gap)))
  gap_each [] before h = ap (λ x. gap_state (in_comment x)) (append-nil before)
  gap_each (b ∷ gap) before h =
      let e : before ++ b ∷ gap ≡ (before ++ b ∷ []) ++ gap = sym (append_assoc before (b ∷ []) gap) in
      let k = gap_each gap (before ++ b ∷ []) (subst IsBlank e h) in
      let m = mode_after before b in (
        gap_state (next_mode b (in_comment before)),
        gap_step (in_comment before) b (passes_at before gap b (blank_passes (before ++ b ∷ gap) h)),
        grind (arith, next_mode b (in_comment before)),
        subst (λ x. SkipsGap proofs x gap (gap_state (in_comment (before ++ b ∷ gap)))) (ap gap_state (sym m))
            (subst (λ x. SkipsGap proofs (gap_state (in_comment (before ++ b ∷ []))) gap (gap_state (in_comment x))) (sym e) k),
      )

  pub gap_before : (gap : List ℕ) (mid after : ProofState) (t : List Letter) (e : Statement) → SkipsGap proofs (idle limit top s) gap mid → ReadsStatement proofs mid t e after
      → IsGap gap × (mid ≡ idle limit top s)
  gap_before gap mid after t e h r =
      let k = gap_only gap [] mid h Nothing in by_mode (in_comment gap) refl k
    where
      by_mode : (x : Bool) → in_comment gap ≡ x → IsBlank gap × (mid ≡ gap_state (in_comment gap)) → IsGap gap × (mid ≡ idle limit top s)
      by_mode true c k = absurd (comment_reads limit top s t e after (subst (λ y. ReadsStatement proofs y t e after) (k.1 ∙ ap gap_state c) r))
      by_mode false c k = ((k.0, c), k.1 ∙ ap gap_state c)

  pub gap_skips : (gap : List ℕ) → IsGap gap → SkipsGap proofs (idle limit top s) gap (idle limit top s)
  gap_skips gap (blank, c) = subst (λ x. SkipsGap proofs (idle limit top s) gap (gap_state x)) c (gap_each gap [] blank)

-- What the proof machine accepts from a stage is the statements in order.

module _ (limit top : ℕ) where
  -- no white space or comment comes before the first statement, and nothing after the last one
  abbrev OnGo : Next ProofState Statement → Type 0
  OnGo (Go next) = proofs.begun next ≡ true
  OnGo (End e next) = Unit {0}
  OnGo Refuse = Unit {0}

  went_inside : (b : ℕ) (m : Action) → Inside m → OnGo (act (idle limit top Opening) b m)
  went_inside b m h = grind arith

  opening_gap : (gap : List ℕ) (mid : ProofState) → SkipsGap proofs (idle limit top Opening) gap mid → (gap ≡ []) × (mid ≡ idle limit top Opening)
  opening_gap [] mid h = (refl, h)
  opening_gap (b ∷ gap) mid (next, g, o, h) = never (proofs.begun next) (subst OnGo g (went_inside b (enter Opening b) (enter_inside Opening b))) o

  complete_reads : (gap : List ℕ) (mid after : ProofState) (t : List Letter) (e : Statement) → SkipsGap proofs (idle limit top Complete) gap mid → ReadsStatement proofs mid t e after → ⊥
  complete_reads [] mid after [] e h r = r
  complete_reads [] mid after (l ∷ []) e h (g, n) = refuse_or_end e after (sym (ap (λ s. proofs.step s l.byte) h) ∙ g)
  complete_reads [] mid after (l ∷ k ∷ t) e h (next, g, i, n, r) = refuse_or_go next (sym (ap (λ s. proofs.step s l.byte) h) ∙ g)
  complete_reads (b ∷ gap) mid after t e (next, g, o, h) r = refuse_or_go next g

  gap_at : (at : Stage) (gap : List ℕ) (mid after : ProofState) (t : List Letter) (e : Statement) → SkipsGap proofs (idle limit top at) gap mid → ReadsStatement proofs mid t e after
      → GapAt at gap × (mid ≡ idle limit top at)
  gap_at Opening gap mid after t e h r = opening_gap gap mid h
  gap_at Complete gap mid after t e h r = absurd (complete_reads gap mid after t e h r)
  gap_at at gap mid after t e h r = gap_before limit top at tt gap mid after t e h r

  pub ordered_only : (items : List (Item Statement)) (at : Stage) → AcceptsItems proofs (idle limit top at) items → IsStaged limit top at items
  ordered_only [] at h = grind (arith, never, at)
  ordered_only (i ∷ rest) at (mid, after, g, r, a) =
      let k = gap_at at i.gap mid after i.text i.event g r in
      let s = statement_only limit top at i.text i.event after (subst (λ x. ReadsStatement proofs x i.text i.event after) k.1 r) in
      (k.0, s.0, s.1, ordered_only rest (stage_after i.event) (subst (λ x. AcceptsItems proofs x rest) s.2 a))

  skips_at : (at : Stage) (gap : List ℕ) → (at ≡ Complete → ⊥) → GapAt at gap → SkipsGap proofs (idle limit top at) gap (idle limit top at)
  skips_at at gap n h = grind (arith, gap_skips)

  pub ordered_each : (items : List (Item Statement)) (at : Stage) → IsStaged limit top at items → AcceptsItems proofs (idle limit top at) items
  ordered_each [] at h = ap is_complete h
  ordered_each (i ∷ rest) at (g, s, t, h) = (
    idle limit top at,
    idle limit top (stage_after i.event),
    skips_at at i.gap (λ k. grind (arith, i.event, s ∙ k)) g,
    subst (λ x. ReadsStatement proofs (idle limit top x) i.text i.event (idle limit top (stage_after i.event))) s (statement_each limit top i.text i.event t),
    ordered_each rest (stage_after i.event) h,
  )

-- The statements of a proof in order: the proof machine accepts exactly these.

-- statements in order
abbrev InOrder : Stage → List Statement → Type 0
InOrder at [] = at ≡ Complete
InOrder at (e ∷ es) = (stage_of e ≡ at) × InOrder (stage_after e) es

-- the statements that end a proof
abbrev ending : Conclusion → List Statement
ending c = Output ∷ Conclude c ∷ Statement.End ∷ []

abbrev Ends : List Statement → Type 0
Ends es = (steps : List Statement) × (c : Conclusion) × All IsStep steps × (es ≡ steps ++ ending c)

at_complete : (es : List Statement) → InOrder Complete es → es ≡ []
at_complete [] h = refl
at_complete (Header ∷ es) h = cc
at_complete (_ ∷ es) h = cc

at_closing : (es : List Statement) → InOrder Closing es → es ≡ Statement.End ∷ []
at_closing [] h = cc
at_closing (Statement.End ∷ es) h = ap (λ x. Statement.End ∷ x) (at_complete es h.1)
at_closing (_ ∷ es) h = cc

at_conclusion : (es : List Statement) → InOrder Stage.Concluding es → (c : Conclusion) × (es ≡ Conclude c ∷ Statement.End ∷ [])
at_conclusion [] h = cc
at_conclusion (Conclude c ∷ es) h = (c, ap (λ x. Conclude c ∷ x) (at_closing es h.1))
at_conclusion (_ ∷ es) h = cc

step_then : (e : Statement) (es : List Statement) → IsStep e → Ends es → Ends (e ∷ es)
step_then e es h (steps, c, k, g) = (e ∷ steps, c, All-cons IsStep e steps h k, ap (λ x. e ∷ x) g)

at_steps : (es : List Statement) → InOrder Steps es → Ends es
at_steps [] h = cc
at_steps (Output ∷ es) h = let (c, e) = at_conclusion es h.1 in ([], c, All-nil IsStep, ap (λ x. Output ∷ x) e)
at_steps (_ ∷ es) h = grind (arith, step_then, at_steps es)

abbrev IsOf : List Statement → Type 0
IsOf es = (v : Proof) × All IsStep v.steps × (es ≡ statements_of v)

at_formula : (es : List Statement) → InOrder Formula es → IsOf (Header ∷ es)
at_formula [] h = cc
at_formula (F n ∷ es) h =
    let (steps, c, k, e) = at_steps es h.1 in (record { count = n; steps = steps; conclusion = c }, k, ap (λ x. Header ∷ F n ∷ x) e)
at_formula (_ ∷ es) h = cc

at_opening : (es : List Statement) → InOrder Opening es → IsOf es
at_opening [] h = cc
at_opening (Header ∷ es) h = at_formula es h.1
at_opening (_ ∷ es) h = cc

-- the converse
step_stage : (e : Statement) → IsStep e → (stage_of e ≡ Steps) × (stage_after e ≡ Steps)
step_stage e h = grind arith

steps_order : (steps : List Statement) (c : Conclusion) → All IsStep steps → InOrder Steps (steps ++ ending c)
steps_order [] c h = (refl, (refl, (refl, refl)))
steps_order (e ∷ steps) c h =
    let k = step_stage e (All-head IsStep e steps h) in
    (k.0, subst (λ x. InOrder x (steps ++ ending c)) (sym k.1) (steps_order steps c (All-tail IsStep e steps h)))

pub no_gap : IsGap []
no_gap = (Nothing, refl)

module _ (limit top : ℕ) where
  abbrev SpelledItem : Item Statement → Type 0
  SpelledItem i = IsGap i.gap × SpellsStatement limit top i.event i.text

  spelled_only : (items : List (Item Statement)) (at : Stage) → IsStaged limit top at items → InOrder at (events_of items) × AreSpelled limit top items
  spelled_only [] at h = (h, All-nil SpelledItem)
  spelled_only (i ∷ rest) at (g, s, t, h) = grind (arith, All-cons, no_gap, spelled_only rest (stage_after i.event) h)

  later_each : (items : List (Item Statement)) (before : Statement) → InOrder (stage_after before) (events_of items) → AreSpelled limit top items → IsStaged limit top (stage_after before) items
  later_each [] before h s = h
  later_each (i ∷ rest) before (e, h) s =
      let k = All-head SpelledItem i rest s in
      (grind (arith, before, k.0), e, k.1, later_each rest i.event h (All-tail SpelledItem i rest s))

  pub proof_each : (items : List (Item Statement)) → IsProof limit top items → IsStaged limit top Opening items
  proof_each items (v, (steps, e, first, spelled)) = from_first items (subst (InOrder Opening) (sym e) (refl, (refl, steps_order v.steps v.conclusion steps))) first spelled
    where
      from_first : (items : List (Item Statement)) → InOrder Opening (events_of items) → BeginsAtOnce limit top items → AreSpelled limit top items → IsStaged limit top Opening items
      from_first [] h f s = absurd f
      from_first (i ∷ rest) (e, h) f s = (f, e, (All-head SpelledItem i rest s).1, later_each rest i.event h (All-tail SpelledItem i rest s))

  -- A new machine accepts exactly the proofs.
  pub reads_proofs : (items : List (Item Statement)) → AcceptsItems proofs (begin limit top) items ↔ IsProof limit top items
  reads_proofs items = grind (arith, spelled_only, at_opening, ordered_only, ordered_each, proof_each)

pub finishes : (s : ProofState) → IsTrue (proofs.done s) → (b : ℕ) → proofs.step s b ≡ Refuse
finishes s h b = grind (arith, never, s.phase)

-- each text is of one proof only
pub one_proof : OneProof
one_proof limit top items items' h k = one_spelling proofs finishes (begin limit top) items items' ((reads_proofs limit top items).1 h) ((reads_proofs limit top items').1 k)
