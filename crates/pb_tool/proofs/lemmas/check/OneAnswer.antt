-- A text, with the rest after it, is rejected in one way or not at all, and a check of two texts has one answer.
use Rattle.{pb_opb.proofs.lemmas.instances.OneValue.same_value, pb_text.proofs.lemmas.text.Blanks.blank_passes, pb_text.proofs.lemmas.text.Blanks.passes_at}
use Rattle.pb_replay.specs.declared.fault.Fault.TheVariants.{Memory as no_memory, Overflow as over}
use Rattle.pb_tool.proofs.Common.{ℕ, ◌++◌, ◌+◌, ◌∙◌, ◌∷◌, ◌≡◌, ◌≤◌, [], ap, append-nil, arith, Err, IsTrue, length, length-append, List, Option, refl, Some}
use Rattle.pb_tool.proofs.Common.{subst, sym, both_ways, place_after-offset, Place, Spanned, Stop, Why, Byte, TooLarge, TooLong, IsBlank, IsStray, passes}
use Rattle.pb_tool.proofs.Common.{ReadsBlank, Took, byte_limit, Explains, IsSpelled, IsUnderWay, Item, place_after, place_past, IsSpelling, IsOfText, ◌↔◌, ◌≢◌}
use Rattle.pb_tool.proofs.Common.{◌⊎◌, Bool, inl, inr, None, Ok, Result, string_bytes, String, same_Some, Instance, IsValueOf, Proof, Statement, IsProofOf}
use Rattle.pb_tool.proofs.Common.{statements_of, OutcomesAreSingle, Fault, NotTotal, Verdict, Opened, Problem, first_state, State, Accepts, Outcome, ok_or_err}
use Rattle.pb_tool.proofs.Common.{same_err, same_ok, Limits, largest, top_of, HasFixedSpans, Reads, events_at, events_of, IsRead, Keeping, Reading, ToolFault}
use Rattle.pb_tool.proofs.Common.{Overflow, Step, Text, AnswersExactly, AreVerified, IsDecided, IsOfTexts, IsSame, OneAnswer, IsProofFile, IsProofText, IsFile}
use Rattle.pb_tool.proofs.Common.{IsInstanceFile, IsInstanceText, IsNoInstanceFile, InRest, InText, AfterProof, CheckCall, ChecksFiles, ComesTo, InProof}
use Rattle.pb_tool.proofs.Common.{IsRefusedStep, IsRefusedText, IsReported, IsVerified}
use Rattle.{pb_tool.proofs.lemmas.check.CheckerSteps.spelled_events, pb_tool.proofs.lemmas.check.OneRead.way_reached, std.specs.declared.alloc.Global.Global}
use Rattle.pb_tool.proofs.lemmas.check.OneRead.{after_prefix, one_prefix, same_rest, some_left, NoneGoesOn, OneSpelling, not_both, one_spelled, one_stop}
use Rattle.pb_tool.proofs.lemmas.check.OneRead.{Compared, two_prefixes, Begins, spans_begin, so_far_reached, reached_before, so_far_before, spelling_reached}
use Rattle.pb_tool.specs.{declared.fault.Input.TheVariants.Instance as of_instance, declared.fault.Input.TheVariants.Proof as of_proof, engine.Single.AllSingle}

-- a byte within a blank text passes
passes_in : (text used more : List ℕ) (b : ℕ) → IsBlank text → text ≡ used ++ b ∷ more → IsTrue (passes used b)
passes_in text used more b blank e = passes_at used more b (blank_passes (used ++ b ∷ more) (subst IsBlank e blank))

module _ (place : Place) where
  -- a blank rest has no stray byte
  pub not_stray : (used left : List ℕ) (why : Why) → IsBlank (used ++ left) → place.offset + length (used ++ left) ≤ byte_limit → IsOfText why → IsStray place used left why → ⊥
  not_stray used left why blank within d h = grind (arith, both_ways, passes_in (used ++ left) used, some_left left, length-append)

  -- no blank text continues after a stray byte
  no_more : (used left used' left' : List ℕ) (why : Why) → used ++ left ≡ used' ++ left' → IsBlank used' → place.offset + length used' ≤ byte_limit → IsOfText why → IsStray place used left why → (x : ℕ) (m : List ℕ) → used' ≡ used ++ x ∷ m → ⊥
  no_more used left used' left' (Byte b) e blank within d (more, is, bad, room) x m p =
      let k : b ∷ more ≡ x ∷ (m ++ left') = sym is ∙ after_prefix used left used' left' e (x ∷ m) p in
      both_ways (passes used b) bad (passes_in used' used m b blank (let same : x ≡ b = cc in p ∙ ap (λ (y : ℕ). used ++ y ∷ m) same))
  no_more used left used' left' why e blank within d h x m p = grind (arith, length-append)

  within_by : (used left : List ℕ) (why : Why) → IsOfText why → IsStray place used left why → place.offset + length used ≤ byte_limit
  within_by used left TooLarge d h = absurd h
  within_by used left why d h = grind arith

  one_why : (used left : List ℕ) (why why' : Why) → IsOfText why → IsOfText why' → IsStray place used left why → IsStray place used left why' → why ≡ why'
  one_why used left TooLong TooLong d d' h h' = refl
  one_why used left why why' d d' h h' = grind arith

  -- there is one first stray byte
  pub one_stray : (used left used' left' : List ℕ) (why why' : Why) → used ++ left ≡ used' ++ left' → IsBlank used → IsBlank used' → IsOfText why → IsOfText why' → IsStray place used left why → IsStray place used' left' why' → (used ≡ used') × (why ≡ why')
  one_stray used left used' left' why why' e blank blank' d d' h h' =
      let same : used ≡ used' =
      one_prefix used left used' left' e (no_more used left used' left' why e blank' (within_by used' left' why' d' h') d h) (no_more used' left' used left why' (sym e) blank (within_by used left why d h) d' h') in
      let rest : left ≡ left' = same_rest used left used' left' e same in
      (same, one_why used left why why' d d' h (subst (λ (y : List ℕ). IsStray place used y why') (sym rest) (subst (λ (y : List ℕ). IsStray place y left' why') (sym same) h')))

-- ---- a text, with the rest after it, is rejected in one way or not at all

-- all of an input was used
pub all_taken : (input used : List ℕ) → input ≡ used ++ [] → input ≡ used
all_taken input used e = e ∙ append-nil used

same_stop : (s t : Stop) → s.place ≡ t.place → s.why ≡ t.why → s ≡ t
same_stop s t e f = λ i. record { place = e i; why = f i }

module _ {E : Type 0} (format : List (Item E) → Type 0) (longest : ℕ) where
  -- why the text, or the rest after it, is rejected
  pub data Refusal (input : List ℕ) (s : Stop) : Type 0 where
    AtStop : (used left : List ℕ) (spans : List (Spanned E)) → input ≡ used ++ left → IsUnderWay format longest used spans → s.place ≡ place_after used → Explains format longest used left s.why → Refusal input s
    AtRest : (used left : List ℕ) (spans : List (Spanned E)) → input ≡ used ++ left → IsSpelled format longest used spans → (rest more : List ℕ) → left ≡ rest ++ more → IsBlank rest → s.place ≡ place_past (place_after used) rest → IsStray (place_after used) rest more s.why → Refusal input s

  -- a whole text, and a rest that is not blank
  pub at_rest : (input used seen : List ℕ) (mid after : Option (List ℕ)) (spans : List (Spanned E)) (place : Place) (s : Stop) → Took (Some input) used seen mid → IsSpelled format longest used spans → place ≡ place_after used
      → ReadsBlank place mid (Err s) after → Refusal input s
  at_rest input used seen mid after spans place s took spelled place_is (rest, more, t, blank, at, stray) =
      let t' : Took (Some seen) rest more after = subst (λ (z : Option (List ℕ)). Took z rest more after) took.1 t in
      AtRest used seen spans took.0 spelled rest more t'.0 blank (at ∙ ap (λ (x : Place). place_past x rest) place_is) (subst (λ (x : Place). IsStray x rest more s.why) place_is stray)

  module _ (one : OneSpelling format) (prefix : NoneGoesOn format) (input : List ℕ) where
    -- not for a whole text and a blank rest
    pub no_refusal : (s : Stop) (after : Option (List ℕ)) (spans : List (Spanned E)) → IsSpelling format longest (Some input) after spans → Refusal input s → IsOfText s.why → ⊥
    no_refusal s after spans' w (AtStop used left spans is u place x) d = not_both format longest used left w.used w.rest spans spans' (sym is ∙ all_taken input (w.used ++ w.rest) w.took.0) u w.spelled s.why d x
    no_refusal s after spans' w (AtRest used left spans is spelled rest more e blank place x) d =
        let both : used ++ left ≡ w.used ++ w.rest = sym is ∙ all_taken input (w.used ++ w.rest) w.took.0 in
        let same : used ≡ w.used = (one_spelled format longest one prefix used left w.used w.rest spans spans' both spelled w.spelled).0 in
        let following : w.rest ≡ rest ++ more = sym (same_rest used left w.used w.rest both same) ∙ e in
        not_stray (place_after used) rest more s.why (subst IsBlank following w.blank)
        (omega (arith, place_after-offset used, ap (λ (y : List ℕ). length y) same, ap (λ (y : List ℕ). length y) following, w.within, length-append w.used w.rest)) d x

    pub one_refusal : (s t : Stop) → Refusal input s → Refusal input t → IsOfText s.why → IsOfText t.why → s ≡ t
    one_refusal s t (AtStop used left spans is u place x) (AtStop used' left' spans' is' u' place' x') d d' =
        let (same, why) = one_stop format longest used left used' left' spans spans' s.why t.why (sym is ∙ is') u d x u' d' x' in
        same_stop s t (cc) why
    one_refusal s t (AtStop used left spans is u place x) (AtRest used' left' spans' is' spelled rest more e blank place' x') d d' = absurd (not_both format longest used left used' left' spans spans' (sym is ∙ is') u spelled s.why d x)
    one_refusal s t (AtRest used left spans is spelled rest more e blank place x) (AtStop used' left' spans' is' u place' x') d d' = absurd (not_both format longest used' left' used left spans' spans (sym is' ∙ is) u spelled t.why d' x')
    one_refusal s t (AtRest used left spans is spelled rest more e blank place x) (AtRest used' left' spans' is' spelled' rest' more' e' blank' place' x') d d' =
        let both : used ++ left ≡ used' ++ left' = sym is ∙ is' in
        let same : used ≡ used' = (one_spelled format longest one prefix used left used' left' spans spans' both spelled spelled').0 in
        let following : left ≡ left' = same_rest used left used' left' both same in
        let (rests, why) =
        one_stray (place_after used) rest more rest' more' s.why t.why (sym e ∙ (following ∙ e')) blank blank' d d' x (subst (λ (y : List ℕ). IsStray (place_after y) rest' more' t.why) (sym same) x') in
        same_stop s t (cc) why

-- ---- lists that continue others

no_spans : {A : Type 0} (xs : List A) (x : A) (more : List A) → [] ≡ (xs ++ x ∷ []) ++ more → ⊥
no_spans [] x more e = absurd cc
no_spans (y ∷ xs) x more e = absurd cc

-- Of two lists, the second with its last element begins with the first with its last. The last elements are at the same
-- index, or that of the second comes later.
ends_at : {A : Type 0} (xs ys : List A) (x y : A) (more : List A) → ys ++ y ∷ [] ≡ (xs ++ x ∷ []) ++ more → ((ys ≡ xs) × (y ≡ x)) ⊎ ((others : List A) × (ys ≡ (xs ++ x ∷ []) ++ others))
ends_at [] [] x y more e = inl (refl, let same : y ≡ x = cc in same)
ends_at [] (z ∷ ys) x y more e = inr (ys, let same : z ≡ x = cc in ap (λ (k : _). k ∷ ys) same)
ends_at (z ∷ xs) [] x y more e = absurd (no_spans xs x more (let none : [] ≡ (xs ++ x ∷ []) ++ more = cc in none))
ends_at (z ∷ xs) (w ∷ ys) x y more e = one_longer (ends_at xs ys x y more (let rest : ys ++ y ∷ [] ≡ (xs ++ x ∷ []) ++ more = cc in rest))
  where
    one_longer : ((ys ≡ xs) × (y ≡ x)) ⊎ ((others : List _) × (ys ≡ (xs ++ x ∷ []) ++ others))
        → ((w ∷ ys ≡ z ∷ xs) × (y ≡ x)) ⊎ ((others : List _) × (w ∷ ys ≡ z ∷ ((xs ++ x ∷ []) ++ others)))
    one_longer (inl (h, k)) = inl (cc, k)
    one_longer (inr (others, h)) = inr (others, cc)

-- ---- the name that a fault gives

one_name : (names : List (List ℕ)) (e : Fault) (a b : List ℕ) → IsReported names e a → IsReported names e b → a ≡ b
one_name names (NotTotal n) a b reported reported' = reported ∙ sym reported'
one_name names e a b reported reported' = reported ∙ sym reported'

module _ (single : OutcomesAreSingle) (limits : Limits) (v : Problem) where
  abbrev Does : State → Statement → Result State Fault → Type 0
  Does s st r = Outcome (largest limits) (top_of limits) v s st r

  abbrev Leads : State → List Statement → State → Type 0
  Leads s sts t = Accepts (largest limits) (top_of limits) v s sts t

  one_next : (s : State) (st : Statement) (a b : State) → Does s st (Ok a) → Does s st (Ok b) → a ≡ b
  one_next s st a b h k = same_ok (single (largest limits) (top_of limits) v s st (Ok a) (Ok b) h k)

  pub one_state : (sts : List Statement) (s t u : State) → Leads s sts t → Leads s sts u → t ≡ u
  one_state [] s t u h k = sym h ∙ k
  one_state (st ∷ sts) s t u (a, o, h) (b, o', k) = one_state sts b t u (subst (λ (x : State). Leads x sts t) (one_next s st a b o o') h) k

  -- a statement that is accepted later on is not rejected
  clash : (spans : List (Spanned Statement)) (m : Spanned Statement) (more : List (Spanned Statement)) (s t u : State) (e : Fault) → Leads s (events_at ((spans ++ m ∷ []) ++ more)) t → Leads s (events_at spans) u → Does u m.event (Err e) → ⊥
  clash [] m more s t u e (a, o, h) k x = ok_or_err (single (largest limits) (top_of limits) v s m.event (Ok a) (Err e) o (subst (λ (y : State). Does y m.event (Err e)) (sym k) x))
  clash (n ∷ spans) m more s t u e (a, o, h) (b, o', k) x =
      clash spans m more b t u e (subst (λ (y : State). Leads y (events_at ((spans ++ m ∷ []) ++ more)) t) (one_next s n.event a b o o') h) k x

  module _ (fixed : HasFixedSpans (IsProofText limits)) (longest : ℕ) (first : State) (input : List ℕ) where
    -- Accepted statements of the text. Each list of statements that is read so far begins them.
    pub record Passed : Type 0 where
      pub spans : List (Spanned Statement)
      pub last : State
      pub accepted : Leads first (events_at spans) last
      pub begins : (used left : List ℕ) (others : List (Spanned Statement)) (place : Place) (done : Bool) → input ≡ used ++ left → Reads (IsProofText limits) longest used used others place done None → Begins others spans

    pub no_step : (after : Option (List ℕ)) (begins : Place) (e : Fault) (name : List ℕ) → Passed → IsRefusedStep limits longest v first (Some input) after begins e name → e ≢ no_memory → ⊥
    no_step after begins e name p (st, state, comes, inl h) d = d h.0
    no_step after begins e name p (st, state, comes, inr (out, named)) d =
        let t = comes.took in
        let (more, is) = p.begins t.used t.seen (comes.spans ++ comes.last ∷ []) comes.last.past t.done t.took.0 t.reads in
        clash comes.spans comes.last more first p.last state e (subst (λ (x : List (Spanned Statement)). Leads first (events_at x) p.last) is p.accepted) comes.accepted
        (subst (λ (x : Statement). Does state x (Err e)) (sym comes.statement) out)

    -- ---- two rejected statements
    -- the statement that was rejected
    record Refused (after : Option (List ℕ)) (e : Fault) (name : List ℕ) (begins : Place) : Type 0 where
      statement : Statement
      state : State
      comes : ComesTo limits longest v first (Some input) after begins statement state
      out : Does state comes.last.event (Err e)
      named : IsReported state.names e name

    refused : (after : Option (List ℕ)) (begins : Place) (e : Fault) (name : List ℕ) → IsRefusedStep limits longest v first (Some input) after begins e name → e ≢ no_memory → Refused after e name begins
    refused after begins e name (st, state, comes, inl h) d = absurd (d h.0)
    refused after begins e name (st, state, comes, inr (out, named)) d =
        record { statement = st; state = state; comes = comes; out = subst (λ (x : Statement). Does state x (Err e)) (sym comes.statement) out; named = named }

    module _ (after after' : Option (List ℕ)) (e e' : Fault) (name name' : List ℕ) (begins begins' : Place) (r : Refused after e name begins) (r' : Refused after' e' name' begins') where
      -- if both are in one text, the second is the first
      same_span : (m : List ℕ) → r'.comes.took.used ≡ r.comes.took.used ++ m → (r'.comes.spans ≡ r.comes.spans) × (r'.comes.last ≡ r.comes.last)
      same_span m p =
          let t = r.comes.took in let t' = r'.comes.took in
          let (more, is) =
          spans_begin (IsProofText limits) longest fixed t.used t'.used m (r.comes.spans ++ r.comes.last ∷ []) (r'.comes.spans ++ r'.comes.last ∷ []) p
          (so_far_reached (IsProofText limits) longest t.used t.used (r.comes.spans ++ r.comes.last ∷ []) r.comes.last.past t.done t.reads) (so_far_reached (IsProofText limits) longest t'.used t'.used (r'.comes.spans ++ r'.comes.last ∷ []) r'.comes.last.past t'.done t'.reads) in
          by (ends_at r.comes.spans r'.comes.spans r.comes.last r'.comes.last more is)
        where
          by : ((r'.comes.spans ≡ r.comes.spans) × (r'.comes.last ≡ r.comes.last)) ⊎ ((others : List (Spanned Statement)) × (r'.comes.spans ≡ (r.comes.spans ++ r.comes.last ∷ []) ++ others))
              → (r'.comes.spans ≡ r.comes.spans) × (r'.comes.last ≡ r.comes.last)
          by (inl h) = h
          by (inr (others, h)) =
              absurd (clash r.comes.spans r.comes.last others first r'.state r.state e (subst (λ (x : List (Spanned Statement)). Leads first (events_at x) r'.state) h r'.comes.accepted) r.comes.accepted r.out)

      same_fault : r'.comes.spans ≡ r.comes.spans → r'.comes.last ≡ r.comes.last → (begins' ≡ begins) × (e' ≡ e) × (name ≡ name')
      same_fault spans last =
          let state : r'.state ≡ r.state = one_state (events_at r.comes.spans) first r'.state r.state (subst (λ (x : List (Spanned Statement)). Leads first (events_at x) r'.state) spans r'.comes.accepted) r.comes.accepted in
          let out : Does r.state r.comes.last.event (Err e') = subst (λ (x : Spanned Statement). Does r.state x.event (Err e')) last (subst (λ (x : State). Does x r'.comes.last.event (Err e')) state r'.out) in
          let fault : e' ≡ e = same_err (single (largest limits) (top_of limits) v r.state r.comes.last.event (Err e') (Err e) out r.out) in (
            r'.comes.begins_is ∙ (ap (λ (x : Spanned Statement). x.first) last ∙ sym r.comes.begins_is),
            fault,
            one_name r.state.names e name name' r.named (subst (λ (x : Fault). IsReported r.state.names x name') fault (subst (λ (x : State). IsReported x.names e' name') state r'.named)),
          )

    one_refused : (after after' : Option (List ℕ)) (e e' : Fault) (name name' : List ℕ) (begins begins' : Place) (r : Refused after e name begins) (r' : Refused after' e' name' begins') → (begins' ≡ begins) × (e' ≡ e) × (name ≡ name')
    one_refused after after' e e' name name' begins begins' r r' = by (two_prefixes r.comes.took.used r.comes.took.seen r'.comes.took.used r'.comes.took.seen (sym r.comes.took.took.0 ∙ r'.comes.took.took.0))
      where
        by : Compared r.comes.took.used r'.comes.took.used → (begins' ≡ begins) × (e' ≡ e) × (name ≡ name')
        by (inl (m, p)) = let (spans, last) = same_span after after' e e' name name' begins begins' r r' m p in same_fault after after' e e' name name' begins begins' r r' spans last
        by (inr (x, m, p)) =
            let (spans, last) = same_span after' after e' e name' name begins' begins r' r (x ∷ m) p in
            let back = same_fault after' after e' e name' name begins' begins r' r spans last in (sym back.0, sym back.1, sym back.2)

    pub one_step : (after after' : Option (List ℕ)) (begins begins' : Place) (e e' : Fault) (name name' : List ℕ) → IsRefusedStep limits longest v first (Some input) after begins e name → e ≢ no_memory
        → IsRefusedStep limits longest v first (Some input) after' begins' e' name' → e' ≢ no_memory → (begins' ≡ begins) × (e' ≡ e) × (name ≡ name')
    one_step after after' begins begins' e e' name name' h d h' d' =
        one_refused after after' e e' name name' begins begins' (refused after begins e name h d) (refused after' begins' e' name' h' d')

-- ---- an input, in one way of reading

module _ {V E : Type 0} (format : List (Item E) → Type 0) (IsValue : List E → V → Type 0) (longest : ℕ) (input : List ℕ) where
  abbrev Has : Option (List ℕ) → V → Type 0
  Has after v = IsFile (IsRead format longest IsValue) (Some input) after v

  one_file : OneSpelling format → NoneGoesOn format → ((events : List E) (v w : V) → IsValue events v → IsValue events w → v ≡ w) → (after other : Option (List ℕ)) (v w : V) → Has after v → Has other w → v ≡ w
  one_file one prefix value after other v w f g =
      let both : f.used ++ f.rest ≡ g.used ++ g.rest = sym (all_taken input (f.used ++ f.rest) f.took.0) ∙ all_taken input (g.used ++ g.rest) g.took.0 in
      let s = f.spelled.spelled in let t = g.spelled.spelled in
      let items : s.items ≡ t.items = (one_spelled format longest one prefix f.used f.rest g.used g.rest f.spelled.spans g.spelled.spans both s t).1 in
      sym f.value ∙ (value (events_of t.items) f.read.event g.read.event (subst (λ (x : List (Item E)). IsValue (events_of x) f.read.event) items f.spelled.value) g.spelled.value ∙ g.value)

  whole_of : (after : Option (List ℕ)) (v : V) (f : Has after v) → IsSpelling format longest (Some input) after f.spelled.spans
  whole_of after v f = record { used = f.used; rest = f.rest; took = f.took; spelled = f.spelled.spelled; blank = f.blank; within = f.within }

  -- a file that was accepted leaves nothing
  taken : (after : Option (List ℕ)) (v : V) → Has after v → Has (Some []) v
  taken after v f = record { used = f.used; rest = f.rest; took = (f.took.0, refl); read = f.read; spelled = f.spelled; blank = f.blank; within = f.within; value = f.value }

-- ---- the proof

module _ (laws : AllSingle) (limits : Limits) (longest : ℕ) (p : List ℕ) where
  one_proof_text : OneSpelling (IsProofText limits)
  one_proof_text items items' h k e = laws.one_proof (largest limits) (top_of limits) items items' h k e

  prefix_of_proof : NoneGoesOn (IsProofText limits)
  prefix_of_proof items items' more h k e = laws.proof_prefix (largest limits) (top_of limits) items items' more h k e

  fixed_veri : HasFixedSpans (IsProofText limits)
  fixed_veri = laws.fixed (largest limits) (top_of limits)

  one_proof : (p' p'' : Option (List ℕ)) (q r : Proof) → IsProofFile limits longest (Some p) p' q → IsProofFile limits longest (Some p) p'' r → q ≡ r
  one_proof = one_file (IsProofText limits) IsProofOf longest p one_proof_text prefix_of_proof laws.value

  module _ (v : Problem) (first : State) where
    proof_refusal : (p' : Option (List ℕ)) (s : Stop) → IsRefusedText limits longest v first (Some p) p' s → Refusal (IsProofText limits) longest p s
    proof_refusal p' s (InProof last a w) = let r = a.took.reads in AtStop a.took.used r.left a.spans (a.took.took.0 ∙ r.input_is) r.answer.0 r.place_is r.answer.2
    proof_refusal p' s (AfterProof mid place last w a claimed rest) =
        at_rest (IsProofText limits) longest p a.took.used a.took.seen mid p' a.spans place s a.took.took a.took.reads.answer.0 a.took.reads.place_is rest

    abbrev HasPassed : Type 0
    HasPassed = Passed laws.outcomes limits v fixed_veri longest first p

    -- the statements of a text of the format, accepted
    spelled_passed : (used left : List ℕ) (spans : List (Spanned Statement)) (last : State) → p ≡ used ++ left → IsSpelled (IsProofText limits) longest used spans → Accepts (largest limits) (top_of limits) v first (events_at spans) last → HasPassed
    spelled_passed used left spans last is s accepted = record {
      spans = spans;
      last = last;
      accepted = accepted;
      begins = λ own more others place done e r.
          let (m, beyond) = so_far_before (IsProofText limits) longest one_proof_text prefix_of_proof own more used left others spans own place done (sym e ∙ is) r s in
          spans_begin (IsProofText limits) longest fixed_veri own used m others spans beyond (so_far_reached (IsProofText limits) longest own own others place done r) (spelling_reached (IsProofText limits) longest used spans s);
    }

    -- those of a text that is rejected
    refused_passed : (p' : Option (List ℕ)) (s : Stop) → IsRefusedText limits longest v first (Some p) p' s → IsOfText s.why → HasPassed
    refused_passed p' s (AfterProof mid place last w a claimed rest) d = spelled_passed a.took.used a.took.seen a.spans last a.took.took.0 a.took.reads.answer.0 a.accepted
    refused_passed p' s (InProof last a w) d =
        let t = a.took.reads in record {
          spans = a.spans;
          last = last;
          accepted = a.accepted;
          begins = λ own more others place done e r.
              let reached = so_far_reached (IsProofText limits) longest own own others place done r in
              let (m, beyond) = reached_before (IsProofText limits) longest a.took.used t.left own more others (sym t.input_is ∙ (sym a.took.took.0 ∙ e)) reached s.why d t.answer.2 in
              spans_begin (IsProofText limits) longest fixed_veri own a.took.used m others a.spans beyond reached (way_reached (IsProofText limits) longest a.took.used a.spans t.answer.0);
        }

    -- those of a whole proof
    proof_passed : (p' : Option (List ℕ)) (q : Proof) (last : State) → IsProofFile limits longest (Some p) p' q → Accepts (largest limits) (top_of limits) v first (statements_of q) last → HasPassed
    proof_passed p' q last f accepted =
        let s = f.spelled.spelled in
        let same = spelled_events (IsProofText limits) longest f.used f.spelled.spans s ∙ (f.spelled.value ∙ ap (λ (x : Proof). statements_of x) f.value) in
        spelled_passed f.used f.rest f.spelled.spans last (all_taken p (f.used ++ f.rest) f.took.0) s (subst (λ (x : List Statement). Accepts (largest limits) (top_of limits) v first x last) (sym same) accepted)

-- ---- the instance

module _ (laws : AllSingle) (limits : Limits) (longest : ℕ) (i : List ℕ) where
  one_instance_text : OneSpelling (IsInstanceText limits)
  one_instance_text items items' h k e = laws.one_instance (largest limits) (top_of limits) items items' h k e

  prefix_of_instance : NoneGoesOn (IsInstanceText limits)
  prefix_of_instance items items' more h k e = laws.instance_prefix (largest limits) (top_of limits) items items' more h k e

  one_instance : (i' i'' : Option (List ℕ)) (v w : Instance) → IsInstanceFile limits longest (Some i) i' v → IsInstanceFile limits longest (Some i) i'' w → v ≡ w
  one_instance = one_file (IsInstanceText limits) IsValueOf longest i one_instance_text prefix_of_instance same_value

  instance_refusal : (i' : Option (List ℕ)) (s : Stop) → IsNoInstanceFile limits longest (Some i) i' s → IsOfText s.why → Refusal (IsInstanceText limits) longest i s
  instance_refusal i' s (InText (used, seen, took, Reading spans r w)) d = AtStop used r.left spans (took.0 ∙ r.input_is) r.answer.0 r.place_is r.answer.2
  instance_refusal i' s (InText (used, seen, took, Keeping spans last done r k is)) d = absurd (subst (λ (x : Stop). IsOfText x.why) is d)
  instance_refusal i' s (InRest m mid (used, seen, took, read) rest) d = at_rest (IsInstanceText limits) longest i used seen mid i' read.spans m.past s took read.spelled read.past rest

  no_instance : (i' i'' : Option (List ℕ)) (v : Instance) (s : Stop) → IsInstanceFile limits longest (Some i) i' v → IsNoInstanceFile limits longest (Some i) i'' s → IsOfText s.why → ⊥
  no_instance i' i'' v s f r d = no_refusal (IsInstanceText limits) longest one_instance_text prefix_of_instance i s i' f.spelled.spans (whole_of (IsInstanceText limits) IsValueOf longest i i' v f) (instance_refusal i'' s r d) d

  one_stop_of_instance : (i' i'' : Option (List ℕ)) (s t : Stop) → IsNoInstanceFile limits longest (Some i) i' s → IsOfText s.why → IsNoInstanceFile limits longest (Some i) i'' t → IsOfText t.why → t ≡ s
  one_stop_of_instance i' i'' s t h d k d' = sym (one_refusal (IsInstanceText limits) longest one_instance_text prefix_of_instance i s t (instance_refusal i' s h d) (instance_refusal i'' t k d') d d')

  -- the problem that the first bytes give
  problems : (i' i'' : Option (List ℕ)) (v w : Instance) (a b : Problem) → IsInstanceFile limits longest (Some i) i' v → Opened (largest limits) v (Ok a) → IsInstanceFile limits longest (Some i) i'' w → Opened (largest limits) w (Ok b) → a ≡ b
  problems i' i'' v w a b f h g k =
      same_ok (laws.openings (largest limits) w (Ok a) (Ok b) (subst (λ (x : Instance). Opened (largest limits) x (Ok a)) (one_instance i' i'' v w f g) h) k)

  opens : (i' i'' : Option (List ℕ)) (v w : Instance) (a : Problem) → IsInstanceFile limits longest (Some i) i' v → Opened (largest limits) v (Ok a) → IsInstanceFile limits longest (Some i) i'' w → Opened (largest limits) w (Err over) → ⊥
  opens i' i'' v w a f h g k = ok_or_err (laws.openings (largest limits) w (Ok a) (Err over) (subst (λ (x : Instance). Opened (largest limits) x (Ok a)) (one_instance i' i'' v w f g) h) k)

  -- ---- both

  module _ (p : List ℕ) where
    abbrev Went : Problem → Type 0
    Went v = HasPassed laws limits longest p v (first_state v)

    module _ {W : Type 0} (contents : W → Option (List ℕ)) (faults : W → ℕ) where
      abbrev Answers : Result Verdict ToolFault → W → Option (List ℕ) → Option (List ℕ) → W → Type 0
      Answers result old i' p' new = ChecksFiles limits longest contents faults record {
        instance = Some i;
        proof = Some p;
        out = old;
        result = result;
        instance_after = i';
        proof_after = p';
        out_after = new;
      }

      -- what is verified is the result
      settled : (i1 p1 : Option (List ℕ)) (v : Instance) (q : Proof) (w : Verdict) → IsInstanceFile limits longest (Some i) i1 v → IsProofFile limits longest (Some p) p1 q → IsVerified limits v q w
          → (result : Result Verdict ToolFault) (old new : W) (i' p' : Option (List ℕ)) → Answers result old i' p' new → IsDecided result → result ≡ Ok w
      settled i1 p1 v q w f g h (Ok x) old new i' p' (v', f', q', g', h', wrote) d =
          let problem : h'.problem ≡ h.problem = problems i' i1 v' v h'.problem h.problem f' h'.opened f h.opened in
          let proof : q' ≡ q = one_proof laws limits longest p p' p1 q' q g' g in
          let here : Accepts (largest limits) (top_of limits) h.problem (first_state h.problem) (statements_of q) h'.last =
          subst (λ (y : Problem). Accepts (largest limits) (top_of limits) y (first_state y) (statements_of q) h'.last) problem (subst (λ (y : Proof). Accepts (largest limits) (top_of limits) h'.problem (first_state h'.problem) (statements_of y) h'.last) proof h'.accepted) in
          let last : h'.last ≡ h.last = one_state laws.outcomes limits h.problem (statements_of q) (first_state h.problem) h'.last h.last here h.accepted in
          ap (λ (y : Verdict). Ok y) (same_Some x w (sym h'.claimed ∙ (ap (λ (s : State). s.concluded) last ∙ h.claimed)))
      settled i1 p1 v q w f g h (Err (Step place e name)) old new i' p' (v', f', problem, opened, r, x) d =
          let same : h.problem ≡ problem = problems i1 i' v v' h.problem problem f h.opened f' opened in
          let went : Went problem = subst Went same (proof_passed laws limits longest p h.problem (first_state h.problem) p1 q h.last g h.accepted) in
          absurd (no_step laws.outcomes limits problem (fixed_veri laws limits longest p) longest (first_state problem) p p' place e (string_bytes name) went r d)
      settled i1 p1 v q w f g h (Err (Text of_proof s)) old new i' p' (v', f', problem, opened, r, x) d =
          absurd (no_refusal (IsProofText limits) longest (one_proof_text laws limits longest p) (prefix_of_proof laws limits longest p) p s p1 g.spelled.spans
          (whole_of (IsProofText limits) IsProofOf longest p p1 q g) (proof_refusal laws limits longest p problem (first_state problem) p' s r) d)
      settled i1 p1 v q w f g h (Err (Text of_instance s)) old new i' p' (r, left) d = absurd (no_instance i1 i' v s f r d)
      settled i1 p1 v q w f g h (Err (Overflow of_instance)) old new i' p' (v', f', k, left) d = absurd (opens i1 i' v v' h.problem f h.opened f' k)
      settled i1 p1 v q w f g h result old new i' p' a d = absurd (grind arith)

      verified_by : (w : Verdict) (old new : W) (i' p' : Option (List ℕ)) → Answers (Ok w) old i' p' new → AreVerified limits longest i p w
      verified_by w old new i' p' (v, f, q, g, h, wrote) = record { instance = v; first = taken (IsInstanceText limits) IsValueOf longest i i' v f; proof = q; second = taken (IsProofText limits) IsProofOf longest p p' q g; verified = h }

      exactly : (i' p' : Option (List ℕ)) (old new : W) (result : Result Verdict ToolFault) (w : Verdict) → Answers result old i' p' new → IsDecided result → (result ≡ Ok w) ↔ AreVerified limits longest i p w
      exactly i' p' old new result w a d = (
        λ e. verified_by w old new i' p' (subst (λ (r : Result Verdict ToolFault). Answers r old i' p' new) e a),
        λ v. settled (Some []) (Some []) v.instance v.proof w v.first v.second v.verified result old new i' p' a d,
      )

      -- ---- two results

      -- an accepted statement is not rejected, and two rejected statements are the same
      text_or_step : (v w : Instance) (i' i'' : Option (List ℕ)) (a b : Problem) (s : Stop) (place : Place) (e : Fault) (name : String Global) (p' p'' : Option (List ℕ)) → IsInstanceFile limits longest (Some i) i' v → Opened (largest limits) v (Ok a)
          → IsRefusedText limits longest a (first_state a) (Some p) p' s → IsOfText s.why → IsInstanceFile limits longest (Some i) i'' w → Opened (largest limits) w (Ok b) → IsRefusedStep limits longest b (first_state b) (Some p) p'' place e (string_bytes name) → e ≢ no_memory → ⊥
      text_or_step v w i' i'' a b s place e name p' p'' f h r d g k x m =
          let same : a ≡ b = problems i' i'' v w a b f h g k in
          let went : Went b = subst Went same (refused_passed laws limits longest p a (first_state a) p' s r d) in
          no_step laws.outcomes limits b (fixed_veri laws limits longest p) longest (first_state b) p p'' place e (string_bytes name) went x m

      two_steps : (v w : Instance) (i' i'' : Option (List ℕ)) (a b : Problem) (place place' : Place) (e e' : Fault) (name name' : String Global) (p' p'' : Option (List ℕ)) → IsInstanceFile limits longest (Some i) i' v → Opened (largest limits) v (Ok a)
          → IsRefusedStep limits longest a (first_state a) (Some p) p' place e (string_bytes name) → e ≢ no_memory → IsInstanceFile limits longest (Some i) i'' w → Opened (largest limits) w (Ok b)
          → IsRefusedStep limits longest b (first_state b) (Some p) p'' place' e' (string_bytes name') → e' ≢ no_memory → IsSame (Err (Step place e name)) (Err (Step place' e' name'))
      two_steps v w i' i'' a b place place' e e' name name' p' p'' f h r d g k r' d' =
          let same : b ≡ a = problems i'' i' w v b a g k f h in
          let (places, faults, names) =
          one_step laws.outcomes limits a (fixed_veri laws limits longest p) longest (first_state a) p p' p'' place place' e e' (string_bytes name) (string_bytes name') r d
          (subst (λ (x : Problem). IsRefusedStep limits longest x (first_state x) (Some p) p'' place' e' (string_bytes name')) same r') d' in
          (name', ap (λ (x : Place). let t : Result Verdict ToolFault = Err (Step x e' name') in t) places ∙ ap (λ (x : Fault). let t : Result Verdict ToolFault = Err (Step place x name') in t) faults, names)

      two_texts : (v w : Instance) (i' i'' : Option (List ℕ)) (a b : Problem) (s t : Stop) (p' p'' : Option (List ℕ)) → IsRefusedText limits longest a (first_state a) (Some p) p' s → IsOfText s.why → IsRefusedText limits longest b (first_state b) (Some p) p'' t → IsOfText t.why → t ≡ s
      two_texts v w i' i'' a b s t p' p'' r d r' d' =
          one_refusal (IsProofText limits) longest (one_proof_text laws limits longest p) (prefix_of_proof laws limits longest p) p t s
          (proof_refusal laws limits longest p b (first_state b) p'' t r') (proof_refusal laws limits longest p a (first_state a) p' s r) d' d

      module _ (i' p' i'' p'' : Option (List ℕ)) (old new old' new' : W) where
        abbrev One : Result Verdict ToolFault → Type 0
        One one = Answers one old i' p' new

        abbrev Other : Result Verdict ToolFault → Type 0
        Other other = Answers other old' i'' p'' new'

        alike : (one other : Result Verdict ToolFault) → One one → IsDecided one → Other other → IsDecided other → IsSame one other
        alike (Ok w) other a d b d' =
            let v = verified_by w old new i' p' a in
            settled (Some []) (Some []) v.instance v.proof w v.first v.second v.verified other old' new' i'' p'' b d'
        alike one (Ok w) a d b d' =
            let v = verified_by w old' new' i'' p'' b in
            let is = settled (Some []) (Some []) v.instance v.proof w v.first v.second v.verified one old new i' p' a d in
            subst (λ (x : Result Verdict ToolFault). IsSame x (Ok w)) (sym is) refl
        alike (Err (Text of_instance s)) (Err (Text of_instance t)) (r, left) d (r', left') d' =
            ap (λ (x : Stop). Err (Text of_instance x)) (one_stop_of_instance i' i'' s t r d r' d')
        alike (Err (Overflow of_instance)) (Err (Overflow of_instance)) a d b d' = refl
        alike (Err (Step place e name)) (Err (Step place' e' name')) (v, f, a, h, r, left) d (w, g, b, k, r', left') d' =
            two_steps v w i' i'' a b place place' e e' name name' p' p'' f h r d g k r' d'
        alike (Err (Step place e name)) (Err (Text of_proof s)) (v, f, a, h, r, left) d (w, g, b, k, r', left') d' =
            absurd (text_or_step w v i'' i' b a s place e name p'' p' g k r' d' f h r d)
        alike (Err (Text of_proof s)) (Err (Step place e name)) (v, f, a, h, r, left) d (w, g, b, k, r', left') d' =
            absurd (text_or_step v w i' i'' a b s place e name p' p'' f h r d g k r' d')
        alike (Err (Text of_proof s)) (Err (Text of_proof t)) (v, f, a, h, r, left) d (w, g, b, k, r', left') d' =
            ap (λ (x : Stop). Err (Text of_proof x)) (two_texts v w i' i'' a b s t p' p'' r d r' d')
        alike (Err (Text of_instance s)) (Err (Overflow of_instance)) (r, left) d b d' = absurd (no_instance i'' i' b.0 s b.1 r d)
        alike (Err (Text of_instance s)) (Err (Step place e name)) (r, left) d b d' = absurd (no_instance i'' i' b.0 s b.1 r d)
        alike (Err (Text of_instance s)) (Err (Text of_proof t)) (r, left) d b d' = absurd (no_instance i'' i' b.0 s b.1 r d)
        alike (Err (Overflow of_instance)) (Err (Text of_instance s)) a d (r, left) d' = absurd (no_instance i' i'' a.0 s a.1 r d')
        alike (Err (Overflow of_instance)) (Err (Step place e name)) (v, f, k, left) d b d' = absurd (opens i'' i' b.0 v b.2 b.1 b.3 f k)
        alike (Err (Overflow of_instance)) (Err (Text of_proof s)) (v, f, k, left) d b d' = absurd (opens i'' i' b.0 v b.2 b.1 b.3 f k)
        alike (Err (Step place e name)) (Err (Text of_instance s)) a d (r, left) d' = absurd (no_instance i' i'' a.0 s a.1 r d')
        alike (Err (Step place e name)) (Err (Overflow of_instance)) a d (w, g, k, left) d' = absurd (opens i' i'' a.0 w a.2 a.1 a.3 g k)
        alike (Err (Text of_proof s)) (Err (Text of_instance t)) a d (r, left) d' = absurd (no_instance i' i'' a.0 t a.1 r d')
        alike (Err (Text of_proof s)) (Err (Overflow of_instance)) a d (w, g, k, left) d' = absurd (opens i' i'' a.0 w a.2 a.1 a.3 g k)
        alike one other a d b d' = absurd (grind arith)

module _ {W : Type 0} (contents : W → Option (List ℕ)) (faults : W → ℕ) (laws : AllSingle) where
  -- a check of two texts, in terms of these texts
  of_texts : (limits : Limits) (longest : ℕ) (i p : List ℕ) (c : CheckCall (Option (List ℕ)) W) → IsOfTexts i p c → ChecksFiles limits longest contents faults c
      → Answers laws limits longest i p contents faults c.result c.out c.instance_after c.proof_after c.out_after
  of_texts limits longest i p c (first, second) checks =
      subst (λ (x : Option (List ℕ)). ChecksFiles limits longest contents faults (record c { instance = Some i; proof = x })) second
      (subst (λ (x : Option (List ℕ)). ChecksFiles limits longest contents faults (record c { instance = x })) first checks)

  pub answers_exactly : AnswersExactly contents faults
  answers_exactly limits longest i p c w is a d =
      exactly laws limits longest i p contents faults c.instance_after c.proof_after c.out c.out_after c.result w (of_texts limits longest i p c is a) d

  pub one_answer : OneAnswer contents faults
  one_answer limits longest i p c o is a d is' b d' =
      alike laws limits longest i p contents faults c.instance_after c.proof_after o.instance_after o.proof_after c.out c.out_after o.out o.out_after c.result o.result
      (of_texts limits longest i p c is a) d (of_texts limits longest i p o is' b) d'
