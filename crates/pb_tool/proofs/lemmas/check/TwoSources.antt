-- What a check of two sources ensures, from what its parts ensure. Offered to other crates.
use Rattle.{pb_proof.specs.meaning.Lines.SpellsStatement, pb_replay.specs.declared.fault.Fault.TheVariants.Memory as no_memory, pb_tool.proofs.Common.Item}
use Rattle.{pb_text.specs.declared.sink.Sink.Ghosts as Sink, pb_text.specs.declared.source.Source.Ghosts as Source, std.specs.Prelude.IfOk}
use Rattle.pb_tool.{proofs.lemmas.show.ShownStatements.all_of, specs.contract.Checked.Checked, specs.contract.Watched.IsWatchedGiven, proofs.Common.ChecksGiven}
use Rattle.pb_tool.proofs.Common.{SawInstance, SawProof, CheckCall, Returns, ℕ, ◌++◌, ◌<◌, ◌∙◌, ◌≡◌, ◌⊎◌, [], ap, Bool, Err, get_or, inl, inr, length, List}
use Rattle.pb_tool.proofs.lemmas.{check.CheckerSteps.spelled_events, file.GivenBytes.both_then, file.GivenBytes.file_then_blank, file.GivenBytes.given_by}
use Rattle.pb_tool.proofs.Common.{None, Ok, Option, refl, Result, Some, string_bytes, subst, sym, true, get_or_append_left, Instance, Proof, Statement, OfGiven}
use Rattle.pb_tool.proofs.Common.{IsProofOf, UnvaluedMayWant, Replaying, Fault, NotTotal, Verdict, Opened, Problem, first_state, State, Accepts, MayWantAt}
use Rattle.pb_tool.proofs.Common.{Outcome, Limits, Place, Spanned, Stop, ReadsBlank, largest, top_of, place_after, IsRead, Broke, Wrote, KeepsNames, events_of}
use Rattle.pb_tool.proofs.Common.{faults_of_instance, faults_of_proof, IsNoReplay, IsReplayOf, IsReportedAs, Replays, RunsProof, SawNoInstance, SawNoProof}
use Rattle.pb_tool.proofs.Common.{Call, HasSeenUpTo, IsWatched, ShowsProof, ShowsRun, CheckFault, ToolFault, Memory, Overflow, Step, Text, Write, IsChecked}
use Rattle.pb_tool.proofs.Common.{IsRun, OfBoth, IsProofFile, IsProofText, IsInstanceFile, AfterProof, ChecksFiles, InProof, IsAccepted, IsReported, IsVerified}
use Rattle.pb_tool.proofs.Common.{verdict_line, ◌∷◌, All, All-cons, All-head, All-nil, All-tail, StatementValues, IsStatementValue, IsGap, statements_of, Unsat}
use Rattle.pb_tool.{proofs.Common.VerdictsMean, specs.meaning.Headline.TrueOf, specs.meaning.Headline.UnsatIsTrue, specs.meaning.Headline.VerdictsAreTrue}
use Rattle.pb_tool.specs.{declared.fault.Input.TheVariants.Instance as of_instance, declared.fault.Input.TheVariants.Proof as of_proof, engine.Running.ChecksTo}

-- the name is among those from before the statement
names_prefix : (names all more : List (List ℕ)) (n : ℕ) → all ≡ names ++ more → n < length names → get_or all n [] ≡ get_or names n []
names_prefix names all more n is lt = ap (λ (x : List (List ℕ)). get_or x n []) is ∙ get_or_append_left names more [] n lt

reported_before : (names all : List (List ℕ)) (e : Fault) (name : List ℕ) → KeepsNames names all e → IsReported all e name → IsReported names e name
reported_before names all (Fault.NotTotal n) name ((more, is), old) h = h ∙ names_prefix names all more n is (old n refl)
reported_before names all e name kept h = h

module _ (limits : Limits) (longest : ℕ) (v : Problem) (first : State) (before : Option (List ℕ)) where
  -- a whole proof, and a blank rest
  pub whole_file : (mid after : Option (List ℕ)) (place : Place) (t : State) (w : Verdict) → IsAccepted limits longest v first before mid place true None t → t.concluded ≡ Some w → ReadsBlank place mid (Ok tt) after → Replays limits longest v first before (Ok w) after
  whole_file mid after place t w a claimed blank =
      let s = a.took.reads.answer.0 in let (q, spells) = s.spelled in let used = a.took.used in
      let same = spelled_events (IsProofText limits) longest used a.spans s ∙ spells.1 in
      let read : Spanned Proof = record { event = q; first = place_after []; past = place_after used } in (
        q,
        file_then_blank (IsRead (IsProofText limits) longest IsProofOf) read before mid after used a.took.seen a.took.took (record { spans = a.spans; spelled = s; value = spells.1; first = refl; past = refl }) refl
            (subst (λ (p : Place). ReadsBlank p mid (Ok tt) after) a.took.reads.place_is blank),
        t,
        subst (λ (x : List Statement). Accepts (largest limits) (top_of limits) v first x t) same a.accepted,
        claimed,
      )

  -- a rejected statement, with the name that the fault gives
  pub step_report : UnvaluedMayWant → (after : Option (List ℕ)) (new : Replaying) (place : Place) (e : Fault) (f : ToolFault) → RunsProof limits longest v first before (Err (CheckFault.Step place e)) after new → IsReportedAs new.names place e f → Replays limits longest v first before (Err f) after
  step_report law after new place e (Step at x name) (st, state, comes, why) (is, reported) = (
    st,
    state,
    record { spans = comes.spans; last = comes.last; took = comes.took; begins_is = is ∙ comes.begins_is; statement = comes.statement; accepted = comes.accepted },
    reason reported why,
  )
    where
      reason : ((x ≡ no_memory) × ((n : ℕ) × (e ≡ NotTotal n))) ⊎ ((x ≡ e) × IsReported new.names e (string_bytes name))
          → ((e ≡ no_memory) × MayWantAt (largest limits) (top_of limits) v state.next st) ⊎ (Outcome (largest limits) (top_of limits) v state st (Err e) × KeepsNames state.names new.names e)
          → ((x ≡ no_memory) × MayWantAt (largest limits) (top_of limits) v state.next st) ⊎ (Outcome (largest limits) (top_of limits) v state st (Err x) × IsReported state.names x (string_bytes name))
      reason (inl (h, reported)) (inl m) = inl (h, m.1)
      reason (inl (h, (n, is))) (inr (out, kept)) = inl (h, law (largest limits) (top_of limits) v state st n (subst (λ (y : Fault). Outcome (largest limits) (top_of limits) v state st (Err y)) is out))
      reason (inr (same, h)) (inl m) = inl (same ∙ m.0, m.1)
      reason (inr (same, h)) (inr (out, kept)) =
          inr (subst (λ (y : Fault). Outcome (largest limits) (top_of limits) v state st (Err y) × IsReported state.names y (string_bytes name)) (sym same) (out, reported_before state.names new.names e (string_bytes name) kept h))
  step_report law after new place e f h reported = absurd reported

module _ (limits : Limits) (longest : ℕ) {V : Type 0} (got : V → Call → V → Type 0) (v : Problem) (first : State) (old new : V) where
  -- what the watch got of a rejected statement
  step_shown : (before after : Option (List ℕ)) (names : List (List ℕ)) (place : Place) (e : Fault) (f : ToolFault) → IsReportedAs names place e f
      → ShowsRun limits longest got v first before old (Err (CheckFault.Step place e)) after new
      → ShowsProof limits longest got v first before old (Err f) after new
  step_shown before after names place e (Step at x name) (same, why) h =
      (e, by why, subst (λ (p : Place). HasSeenUpTo limits longest got v first before old after p e new) (sym same) h)
    where
      by : ((x ≡ no_memory) × ((n : ℕ) × (e ≡ NotTotal n))) ⊎ ((x ≡ e) × IsReported names e (string_bytes name)) → (x ≡ e) ⊎ ((x ≡ no_memory) × (n : ℕ) × (e ≡ NotTotal n))
      by (inl (k, (n, reported))) = inr (k, n, reported)
      by (inr (k, reported)) = inl k
  step_shown before after names place e f reported h = absurd reported

-- ---- a proof, with the rest after it

module _ (longest : ℕ) (began : Replaying) {V : Type 0} (got : V → Call → V → Type 0) (old : V) (first : State) (r : Replaying) (new : V) where
  abbrev Run : Result (Verdict × Place) CheckFault → Option (List ℕ) → Option (List ℕ) → Type 0
  Run result = IsRun longest began got old first result r new

  abbrev Whole : Result Verdict ToolFault → Option (List ℕ) → Option (List ℕ) → Type 0
  Whole result = IsChecked longest began got old first result new

  -- a text that stopped
  pub text_stopped : (s : Stop) (before after : Option (List ℕ)) → Run (Err (CheckFault.Text s)) before after → Whole (Err (Text of_proof s)) before after
  text_stopped s before after run = record { replayed = InProof run.runs.0 run.runs.1 run.runs.2; shown = inl run.shown }

  -- a rejected statement
  pub step_rejected : UnvaluedMayWant → (place : Place) (e : Fault) (f : ToolFault) → IsReportedAs r.names place e f → (before after : Option (List ℕ))
      → Run (Err (CheckFault.Step place e)) before after → Whole (Err f) before after
  step_rejected law place e f reported before after run = record {
    replayed = step_report began.limits longest began.problem first before law after r place e f run.runs reported;
    shown = step_shown began.limits longest got began.problem first old new before after r.names place e f reported run.shown;
  }

  -- a whole proof, with another rest
  moved : (ended : Verdict × Place) (used seen other : List ℕ) → Run (Ok ended) (Some (used ++ seen)) (Some seen)
      → Run (Ok ended) (Some (used ++ other)) (Some other)
  moved ended used seen other run =
      let (last, a, claimed) = run.runs in let h = run.shown in
      record {
        runs = (
          last,
          record { spans = a.spans; took = all_of (IsProofText began.limits) longest used seen other a.spans ended.1 a.took; accepted = a.accepted },
          claimed,
        );
        shown =
            record {
              spans = h.spans;
              took = all_of (IsProofText began.limits) longest used seen other h.spans ended.1 h.took;
              calls = h.calls;
              last = h.last;
              shows = h.shows;
              got_are = h.got_are;
            };
      }

  -- a blank rest follows
  pub blank_after : (ended : Verdict × Place) (before : Option (List ℕ)) (since : List ℕ) (mid : Option (List ℕ)) (given : List ℕ) (rest : Option (List ℕ))
      (now : List ℕ)
      → OfBoth (Run (Ok ended)) before since mid given → OfBoth (λ left end. ReadsBlank ended.1 left (Ok tt) end) mid given rest now
      → OfBoth (Whole (Ok ended.0)) before since rest now
  blank_after ended = both_then (moved ended) (λ before mid after run blank. record {
    replayed = whole_file began.limits longest began.problem first before mid after ended.1 run.runs.0 ended.0 run.runs.1 run.runs.2 blank;
    shown = (mid, ended.1, run.shown);
  })

  -- one that is not blank
  pub stray_after : (ended : Verdict × Place) (s : Stop) (before : Option (List ℕ)) (since : List ℕ) (mid : Option (List ℕ)) (given : List ℕ)
      (rest : Option (List ℕ)) (now : List ℕ)
      → OfBoth (Run (Ok ended)) before since mid given → OfBoth (λ left end. ReadsBlank ended.1 left (Err s) end) mid given rest now
      → OfBoth (Whole (Err (Text of_proof s))) before since rest now
  stray_after ended s = both_then (moved ended) (λ before mid after run blank. record {
    replayed = AfterProof mid ended.1 run.runs.0 ended.0 run.runs.1 run.runs.2 blank;
    shown = inr (mid, ended.1, run.shown);
  })

-- ---- two sources

module _ (limits : Limits) (longest : ℕ) {W V : Type 0} (contents : W → Option (List ℕ)) (faults : W → ℕ) (got : V → Call → V → Type 0) (old new : W)
    (watch watched : V) where
  -- what a check returns, and what the watch got
  pub record Answered (result : Result Verdict ToolFault) (i i' p p' : Option (List ℕ)) : Type 0 where
    pub checks : ChecksFiles limits longest contents faults record {
      instance = i;
      proof = p;
      out = old;
      result = result;
      instance_after = i';
      proof_after = p';
      out_after = new;
    }
    pub watches : IsWatched limits longest got i p watch result i' p' watched

  -- there is no replay
  pub no_replay : (f : ToolFault) → new ≡ old → watched ≡ watch → (i i' p : Option (List ℕ)) → IsNoReplay limits longest i i' f → Answered (Err f) i i' p p
  no_replay (Text of_instance s) same unseen i i' p h = record { checks = (h, (refl, same)); watches = unseen }
  no_replay (Overflow of_instance) same unseen i i' p h = record { checks = (h.0, h.1, h.2, (refl, same)); watches = unseen }
  no_replay (Memory of_instance) same unseen i i' p h = record { checks = (h.0, h.1, h.2, (refl, same)); watches = unseen }
  no_replay f same unseen i i' p h = absurd h

  module _ (r : Replaying) where
    -- a check of the proof with the replay, for an instance and a proof
    abbrev pub Answers : Result Verdict ToolFault → Result Verdict ToolFault → Type 0
    Answers checked result = (i i' p p' : Option (List ℕ)) → IsReplayOf limits longest i i' r
        → IsChecked longest r got watch (first_state r.problem) checked watched p p' → Answered result i i' p p'

    shown : (result : Result Verdict ToolFault) (i i' p p' : Option (List ℕ)) → IsReplayOf limits longest i i' r
        → IsChecked longest r got watch (first_state r.problem) result watched p p'
        → (v : Instance) × IsInstanceFile limits longest i i' v × (problem : Problem) × Opened (largest limits) v (Ok problem)
        × ShowsProof limits longest got problem (first_state problem) p watch result p' watched
    shown result i i' p p' h owed =
        let of = λ (x : Limits). ShowsProof x longest got r.problem (first_state r.problem) p watch result p' watched in
        (h.instance, h.file, r.problem, h.opened, subst of h.limited owed.shown)

    replayed : (result : Result Verdict ToolFault) (i i' p p' : Option (List ℕ)) → IsReplayOf limits longest i i' r
        → IsChecked longest r got watch (first_state r.problem) result watched p p' → Replays limits longest r.problem (first_state r.problem) p result p'
    replayed result i i' p p' h owed =
        subst (λ (x : Limits). Replays x longest r.problem (first_state r.problem) p result p') h.limited owed.replayed

    -- all was accepted
    verified : (w : Verdict) (i i' p p' : Option (List ℕ)) (h : IsReplayOf limits longest i i' r)
        → IsChecked longest r got watch (first_state r.problem) (Ok w) watched p p'
        → (q : Proof) × IsProofFile limits longest p p' q × IsVerified limits h.instance q w
    verified w i i' p p' h owed =
        let (q, file, t, accepted, claimed) = replayed (Ok w) i i' p p' h owed in
        (q, file, record { problem = r.problem; opened = h.opened; last = t; accepted = accepted; claimed = claimed })

    pub all_written : (w : Verdict) → Wrote contents faults old (verdict_line w) new → Answers (Ok w) (Ok w)
    all_written w wrote i i' p p' h owed =
        let (q, file, is) = verified w i i' p p' h owed in
        record { checks = (h.instance, h.file, q, file, is, wrote); watches = shown (Ok w) i i' p p' h owed }

    pub all_broke : (w : Verdict) → Broke contents faults old (verdict_line w) new → Answers (Ok w) (Err Write)
    all_broke w broke i i' p p' h owed =
        let (q, file, is) = verified w i i' p p' h owed in
        record { checks = (h.instance, h.file, q, file, w, is, broke); watches = shown (Ok w) i i' p p' h owed }

    -- the proof was rejected
    pub proof_refused : (f : ToolFault) → new ≡ old → Answers (Err f) (Err f)
    proof_refused (Step place e name) same i i' p p' h owed =
        let checks = replayed (Err (Step place e name)) i i' p p' h owed in
        record { checks = (h.instance, h.file, r.problem, h.opened, checks, same); watches = shown (Err (Step place e name)) i i' p p' h owed }
    proof_refused (Text of_proof s) same i i' p p' h owed =
        let checks = replayed (Err (Text of_proof s)) i i' p p' h owed in
        record { checks = (h.instance, h.file, r.problem, h.opened, checks, same); watches = shown (Err (Text of_proof s)) i i' p p' h owed }
    proof_refused f same i i' p p' h owed = absurd owed.replayed

-- ---- what the last peeks of a check have shown

module _ (shown : Option ℕ) (ended : Bool) where
  module _ (limits : Limits) (longest : ℕ) (before after : Option (List ℕ)) where
    -- if there is no replay, the reason is not the text of the proof
    pub opening_unseen : (f : ToolFault) → IsNoReplay limits longest before after f → SawNoProof shown ended f
    opening_unseen (Text of_proof s) h = absurd h
    opening_unseen Write h = absurd h
    opening_unseen f h = tt

    -- a proof is not rejected for the text of the instance, which was read to its end
    pub replay_unseen : ended ≡ true → (v : Problem) (first : State) (f : ToolFault) → Replays limits longest v first before (Err f) after → SawNoInstance shown ended f
    replay_unseen end v first (Text of_instance s) h = absurd h
    replay_unseen end v first f h = end

  -- a rejected statement is not a text that stopped the reader
  pub report_unseen : (names : List (List ℕ)) (place : Place) (e : Fault) (f : ToolFault) → IsReportedAs names place e f → SawNoProof shown ended f
  report_unseen names place e (Step at x name) h = tt
  report_unseen names place e f h = absurd h

-- nor has the source of the instance then
pub instance_read : (limits : Limits) (longest : ℕ) (v : Problem) (first : State) (before after : Option (List ℕ)) (f : ToolFault)
    → Replays limits longest v first before (Err f) after → (k m : ℕ) → k ≡ m → k ≡ faults_of_instance {A = Verdict} (Err f) m
instance_read limits longest v first before after (Text of_instance s) h k m same = absurd h
instance_read limits longest v first before after f h k m same = same

-- for a rejected statement the source has not failed
pub report_faults : (A : Type 0) (names : List (List ℕ)) (place : Place) (e : Fault) (f : ToolFault) → IsReportedAs names place e f → (k n : ℕ) → k ≡ n → k ≡ faults_of_proof {A = A} (Err f) n
report_faults A names place e (Step at x name) h k n same = same
report_faults A names place e f h k n same = absurd h

module _ (values : StatementValues) (limit top : ℕ) where
  abbrev IsSpelled : Item Statement → Type 0
  IsSpelled i = IsGap i.gap × SpellsStatement limit top i.event i.text

  fine_events : (items : List (Item Statement)) → All IsSpelled items → All (IsStatementValue limit top) (events_of items)
  fine_events [] h = All-nil (IsStatementValue limit top)
  fine_events (i ∷ items) h =
      All-cons (IsStatementValue limit top) i.event (events_of items) (values limit top i.event i.text (All-head IsSpelled i items h).1) (fine_events items (All-tail IsSpelled i items h))

pub verdicts : VerdictsMean → StatementValues → VerdictsAreTrue
verdicts means values limits longest i p w before after file verified =
    let s = file.spelled.spelled in
    means (largest limits) (top_of limits) i verified.problem (statements_of p) verified.last w verified.opened
    (subst (All (IsStatementValue (largest limits) (top_of limits))) (file.spelled.value ∙ ap (λ (x : Proof). statements_of x) file.value) (fine_events values (largest limits) (top_of limits) s.items s.spelled.1.3))
    verified.accepted verified.claimed

pub unsat : {W : Type 0} (contents : W → Option (List ℕ)) (faults : W → ℕ) → VerdictsMean → StatementValues → UnsatIsTrue contents faults
unsat contents faults means values limits longest c checks is =
    let (v, file, q, proof, verified, wrote) = subst (Returns limits longest contents faults c) is checks in
    (v, file, verdicts means values limits longest v q Unsat c.proof c.proof_after proof verified)

-- ---- what a check that returns a verdict says of the instance that it has read

at_ok : (P : Verdict → Type 0) (result : Result Verdict ToolFault) (w : Verdict) → IfOk result P → result ≡ Ok w → P w
at_ok P result w h e = subst (λ (r : Result Verdict ToolFault). IfOk r P) e h

module _ (true : VerdictsAreTrue) {W : Type 0} (contents : W → Option (List ℕ)) (faults : W → ℕ) (limits : Limits) (longest : ℕ) (old new : W) where
  abbrev call : Result Verdict ToolFault → {S : Type 0} → S → S → S → S → CheckCall S W
  call result i p i' p' = record { instance = i; proof = p; out = old; result = result; instance_after = i'; proof_after = p'; out_after = new }

  verdict_is_true : (result : Result Verdict ToolFault) (i p i' p' : Option (List ℕ)) → ChecksFiles limits longest contents faults (call result i p i' p')
      → IfOk result (λ w. TrueOf limits longest w i i')
  verdict_is_true (Ok w) i p i' p' (v, file, q, proof, verified, wrote) = (v, file, true limits longest v q w p p' proof verified)
  verdict_is_true (Err f) i p i' p' h = tt

  -- the same for the bytes that its calls gave
  given_is_true : (result : Result Verdict ToolFault) (i p i' p' : List ℕ) → ChecksGiven limits longest contents faults (call result i p i' p')
      → IfOk result (λ w. OfGiven (TrueOf limits longest w) i i')
  given_is_true (Ok w) i p i' p' (one, left, e, (other, rest, f, checks)) =
      (one, left, e, verdict_is_true (Ok w) (Some (one ++ left)) (Some (other ++ rest)) (Some left) (Some rest) checks)
  given_is_true (Err f) i p i' p' h = tt

-- ---- every fact of a check, from what it returns and what the watch got

module _ (true : VerdictsAreTrue) {I P W V : Type 0} (of_i : Source I) (of_p : Source P) (of_o : Sink W) (got : V → Call → V → Type 0) (limits : Limits)
    (longest n : ℕ) (is : longest ≡ n) (i : I) (p : P) (o : W) (v : V) (i' : I) (p' : P) (o' : W) (v' : V) (result : Result Verdict ToolFault) where
  abbrev pub Shows : ℕ → Type 0
  Shows m = Checked of_i of_p of_o limits m i p o result i' p' o' × IsWatched limits m got (of_i.left i) (of_p.left p) v result (of_i.left i') (of_p.left p') v'
      × IsWatchedGiven limits m got (of_i.history i) (of_p.history p) v result (of_i.history i') (of_p.history p') v'

  abbrev IsAnswered : Option (List ℕ) → Option (List ℕ) → Option (List ℕ) → Option (List ℕ) → Type 0
  IsAnswered = Answered limits longest of_o.contents of_o.faults got o o' v v' result

  given_of : {Q : Option (List ℕ) → Option (List ℕ) → Option (List ℕ) → Option (List ℕ) → Type 0}
      → ((one one' other other' : Option (List ℕ)) → IsAnswered one one' other other' → Q one one' other other')
      → OfGiven (λ one one'. OfGiven (λ other other'. IsAnswered one one' other other') (of_p.history p) (of_p.history p')) (of_i.history i) (of_i.history i')
      → OfGiven (λ one one'. OfGiven (λ other other'. Q one one' other other') (of_p.history p) (of_p.history p')) (of_i.history i) (of_i.history i')
  given_of to (one, left, e, (other, rest, f, a)) = (one, left, e, (other, rest, f, to (Some (one ++ left)) (Some left) (Some (other ++ rest)) (Some rest) a))

  pub all_answered : IsAnswered (of_i.left i) (of_i.left i') (of_p.left p) (of_p.left p')
      → OfGiven (λ one one'. OfGiven (λ other other'. IsAnswered one one' other other') (of_p.history p) (of_p.history p')) (of_i.history i) (of_i.history i')
      → SawInstance (of_i.shown i') (of_i.ended i') result → SawProof (of_p.shown p') (of_p.ended p') result
      → of_i.faults i' ≡ faults_of_instance result (of_i.faults i) → of_p.faults p' ≡ faults_of_proof result (of_p.faults p) → Shows n
  all_answered here owed seen_i seen_p faults_i faults_p =
      let given = given_of
      {Q = λ one one' other other'. ChecksFiles limits longest of_o.contents of_o.faults
      (call true of_o.contents of_o.faults limits longest o o' result one other one' other')} (λ one one' other other' a. a.checks) owed in
      let is_true = verdict_is_true true of_o.contents of_o.faults limits longest o o' result (of_i.left i) (of_p.left p) (of_i.left i') (of_p.left p')
      here.checks in
      let is_given = given_is_true true of_o.contents of_o.faults limits longest o o' result (of_i.history i) (of_p.history p) (of_i.history i')
      (of_p.history p') given in
      let checked : Checked of_i of_p of_o limits longest i p o result i' p' o' = record {
        checks = here.checks;
        given = given;
        unsat = at_ok (λ w. TrueOf limits longest w (of_i.left i) (of_i.left i')) result Unsat is_true;
        true_verdict = is_true;
        unsat_given = at_ok (λ w. OfGiven (TrueOf limits longest w) (of_i.history i) (of_i.history i')) result Unsat is_given;
        true_given = is_given;
        seen_instance = seen_i;
        seen_proof = seen_p;
        instance = faults_i;
        proof = faults_p;
      } in
      subst Shows is (
        checked,
        here.watches,
        given_of {Q = λ one one' other other'. IsWatched limits longest got one other v result one' other' v'}
            (λ one one' other other' a. a.watches) owed,
      )

  -- the same, from what the check of the proof with a replay comes to
  pub all_replayed : (r : Replaying) → IsReplayOf limits longest (of_i.left i) (of_i.left i') r
      → OfGiven (λ one one'. IsReplayOf limits longest one one' r) (of_i.history i) (of_i.history i')
      → (checked : Result Verdict ToolFault) → ChecksTo longest r got (of_p.left p) (of_p.history p) v checked (of_p.left p') (of_p.history p') v'
      → ((one one' other other' : Option (List ℕ)) → IsReplayOf limits longest one one' r → IsChecked longest r got v (first_state r.problem) checked v' other
      other' → IsAnswered one one' other other')
      → SawInstance (of_i.shown i') (of_i.ended i') result → SawProof (of_p.shown p') (of_p.ended p') result
      → of_i.faults i' ≡ faults_of_instance result (of_i.faults i) → of_p.faults p' ≡ faults_of_proof result (of_p.faults p) → Shows n
  all_replayed r opened given checked comes to =
      let first = first_state r.problem in
      all_answered (to (of_i.left i) (of_i.left i') (of_p.left p) (of_p.left p') opened (comes first opened.first).0)
      (given_by (of_i.history i) (of_i.history i') (λ one one' h. given_by (of_p.history p) (of_p.history p') (λ other other'. to one one' other other' h)
      (comes first h.first).1) given)
