-- The state of a checker after a feed and a step. Offered to other crates.
use Rattle.{pb_proof.specs.declared.Statement.TheVariants.Header, pb_replay.specs.declared.fault.Fault.TheVariants.Memory, pb_text.specs.declared.Fed.Fed}
use Rattle.pb_text.specs.contract.{Automaton.AcceptsItems as AcceptsBytes, Standing.Counts, Standing.Halts, Standing.Waits, Standing.IsOpen as IsOpenText}
use Rattle.pb_tool.proofs.Common.{EndsStatement, HoldsOpen, ℕ, ◌++◌, ◌+◌, ◌-◌, ◌<◌, ◌∙◌, ◌∷◌, ◌≡◌, ◌⊎◌, [], add-zero, All, ap, append-nil, append_assoc, Bool}
use Rattle.pb_tool.proofs.{Common.letters_of, Common.plain, Common.spans_since, lemmas.check.OneRead.no_prefix}
use Rattle.{pb_tool.specs.contract.Checks.IsRefusedAt, std.proofs.lemmas.Bool.Decides.nat_tests}
use Rattle.pb_tool.proofs.Common.{drop, Err, false, arith, inl, inr, length, length-append, List, None, Ok, Option, refl, Result, Some, subst, sym, take}
use Rattle.pb_tool.proofs.Common.{take-append-drop, true, IsSome, not, All-head, All-tail, ReadsProofs, ReadStatements, IsStatementValue, Proof, Stage}
use Rattle.pb_tool.proofs.Common.{Statement, Conclude, End, F, Output, begin, proofs, ProofState, IsProof, WholeProofsConclude, Replaying, StandsFor, StepsAs}
use Rattle.pb_tool.proofs.Common.{verdict_at, verdict_in, Fault, NotTotal, Verdict, IsNamePrefix, IsSound, Problem, State, Accepts, MayWantAt, Outcome}
use Rattle.pb_tool.proofs.Common.{spans_events, all_rest, prefix_parts, FeedsOnce, halt_of, is_complete, place_of, StandsAt, Limits, Place, Spanned, Stop, Why}
use Rattle.pb_tool.proofs.Common.{end_of, largest, top_of, Explains, IsSpelled, Reads, bytes, Item, events_at, events_of, accepted_by, AsksAsText, Checking}
use Rattle.pb_tool.proofs.Common.{ChecksSoFar, CountsSoFar, IsAccepting, IsAt, IsSomewhere, ProofFeeder, StepsFrom, TextsAreRead, Checks, EndsAfter, IsReplayed}
use Rattle.pb_tool.proofs.Common.{KeepsNames, KeepsNamesOf, LeadsTo, Rejects, StepsTo, AllocatesAt, AnyCutting, bytes_to, ChecksAt, ChecksOnce, CountsAt}
use Rattle.pb_tool.proofs.Common.{CountsOnce, fault_of, FeedsInTurn, is_whole, joined, MayGoOn, place_in, CheckFault, Begins, ◌≤◌, length-map, PrefixFree}
use Rattle.pb_tool.proofs.Common.{same_prefix, bytes-append, length-bytes, place_after-offset, HoldsFew, Answers as AnswersText, open_bytes, bytes_of, Letter}
use Rattle.pb_tool.specs.declared.commands.check.checker.CheckFault.TheVariants.{Text, Step}
use Rattle.pb_text.proofs.lemmas.text.Formats as formats

abbrev pub failed : CheckFault → Result Unit CheckFault
failed x = Err x

-- a name that the fault gives by its number is one from before
abbrev pub ReportsOld : Replaying → CheckFault → Type 0
ReportsOld old x = (at : Place) (n : ℕ) → failed x ≡ failed (Step at (NotTotal n)) → n < length old.names

-- the result of a step, from any state of the replay
abbrev pub Answers : Replaying → Spanned Statement → Result Unit CheckFault → Replaying → Type 0
Answers old m result new = (now : Result State Fault) → IsAt old now → StepsFrom old.limits old.problem now m result new

-- a prefix of a prefix of a list of names is a prefix of it
pub prefix_on : (a b c : List (List ℕ)) → IsNamePrefix a b → IsNamePrefix b c → IsNamePrefix a c
prefix_on a b c (m, e) (n, f) = (m ++ n, f ∙ (ap (λ (x : List (List ℕ)). x ++ n) e ∙ append_assoc a m n))

-- ---- one statement more
module _ (limit top : ℕ) (v : Problem) where
  pub accepts_more : (spans : List (Spanned Statement)) (m : Spanned Statement) (s u t : State) → Accepts limit top v s (events_at spans) u → Outcome limit top v u m.event (Ok t) → Accepts limit top v s (events_at (spans ++ m ∷ [])) t
  accepts_more [] m s u t h k = (t, subst (λ (x : State). Outcome limit top v x m.event (Ok t)) (sym h) k, refl)
  accepts_more (n ∷ spans) m s u t h k = (h.0, h.1, accepts_more spans m h.0 u t h.2 k)

module _ (limits : Limits) (v : Problem) where
  leads_more : (first : Result State Fault) (spans : List (Spanned Statement)) (m : Spanned Statement) (now : Result State Fault) (t : State) → LeadsTo limits v first (events_at spans) now → StepsTo limits v now m.event t → LeadsTo limits v first (events_at (spans ++ m ∷ [])) (Ok t)
  leads_more (Ok s) spans m now t (u, is, h) k =
      (t, refl, accepts_more (largest limits) (top_of limits) v spans m s u t h (subst (λ (x : Result State Fault). StepsTo limits v x m.event t) is k))
  leads_more (Err e) spans m now t (none, is) k = absurd (subst (λ (x : Result State Fault). StepsTo limits v x m.event t) is k)

-- ---- a step
module _ (limits : Limits) (v : Problem) where
  took : (old new : Replaying) (m : Spanned Statement) → old.limits ≡ limits → old.problem ≡ v → StepsAs old m.event (Ok tt) new → (s : State) → StandsFor old s → (t : State) × IsAt new (Ok t) × StepsTo limits v (Ok s) m.event t
  took old new m l p steps s at =
      let (t, to, out) = steps.0 s at in
      (t, (steps.1, to), subst (λ (x : Limits). StepsTo x v (Ok s) m.event t) l (subst (λ (x : Problem). StepsTo old.limits x (Ok s) m.event t) p out))

pub stepped_ok : (old new : Replaying) (m : Spanned Statement) → (old.fault ≡ None → StepsAs old m.event (Ok tt) new) → ((e : Fault) → old.fault ≡ Some e → ◌≡◌ {A = Result Unit Fault} (Ok tt) (Err e)) → (now : Result State Fault) → IsAt old now → StepsFrom old.limits old.problem now m (Ok tt) new
stepped_ok old new m steps again (Ok s) at = took old.limits old.problem old new m refl refl (steps at.0) s at.1
stepped_ok old new m steps again (Err e) at = absurd (let bad = again e at in cc bad)

-- a fault of a step
pub stepped_err : (old new : Replaying) (m : Spanned Statement) (e : Fault) (x : CheckFault) → x ≡ Step m.first e → (old.fault ≡ None → StepsAs old m.event (Err e) new) → (old.fault ≡ None → e ≡ Memory → MayWantAt (largest old.limits) (top_of old.limits) old.problem old.next m.event)
    → ((d : Fault) → old.fault ≡ Some d → e ≡ d) → (now : Result State Fault) → IsAt old now → StepsFrom old.limits old.problem now m (Err x) new
stepped_err old new m e x is steps wants again (Ok s) at = (e, is, by (steps at.0).0)
  where
    by : (e ≡ Memory) ⊎ ((s : State) → StandsFor old s → Outcome (largest old.limits) (top_of old.limits) old.problem s m.event (Err e)) → Rejects old.limits old.problem (Ok s) m.event e
    by (inl memory) = inl (memory, subst (λ (p : Stage). MayWantAt (largest old.limits) (top_of old.limits) old.problem p m.event) (sym at.1.next) (wants at.0 memory))
    by (inr h) = inr (h s at.1)
stepped_err old new m e x is steps wants again (Err d) at = (e, is, again d at)

-- ---- a statement that was read meets the rules of a value
last_of : (P : Statement → Type 0) (spans : List (Spanned Statement)) (m : Spanned Statement) → All P (events_at (spans ++ m ∷ [])) → P m.event
last_of P [] m h = All-head P m.event [] h
last_of P (n ∷ spans) m h = last_of P spans m (All-tail P n.event (events_at (spans ++ m ∷ [])) h)

pub last_is_value : ReadStatements → (limit top longest : ℕ) (input used : List ℕ) (spans : List (Spanned Statement)) (m : Spanned Statement) (place : Place) (done : Bool) → Reads (IsProof limit top) longest input used (spans ++ m ∷ []) place done None → IsStatementValue limit top m.event
last_is_value values limit top longest input used spans m place done r =
    last_of (IsStatementValue limit top) spans m (values limit top longest input used (spans ++ m ∷ []) place done None r).each

-- ---- what a read without a stop says of the used bytes alone
module _ (limit top longest : ℕ) where
  used_alone : (input used : List ℕ) (spans : List (Spanned Statement)) (place : Place) (done : Bool) → Reads (IsProof limit top) longest input used spans place done None → Reads (IsProof limit top) longest used used spans place done None
  used_alone input used spans place true r = record { left = []; input_is = sym (append-nil used); place_is = r.place_is; answer = (r.answer.0, refl) }
  used_alone input used spans place false r = record { left = []; input_is = sym (append-nil used); place_is = r.place_is; answer = (r.answer.0, refl) }

  stopped : (input used : List ℕ) (spans : List (Spanned Statement)) (place : Place) (done : Bool) (s : Stop) → Reads (IsProof limit top) longest input used spans place done (Some s) → Reads (IsProof limit top) longest input used spans place false (Some s)
  stopped input used spans place true s r = absurd (let e = r.answer.1 in cc e)
  stopped input used spans place false s r = r

-- ---- a feeder of the machine of proofs
abbrev StandingIsReading : Type 0
StandingIsReading = (longest : ℕ) (start : ProofState) (input : List ℕ) (spans : List (Spanned Statement)) (f : ProofFeeder) → StandsAt longest start input spans f → (used : List ℕ) × Reads (AcceptsBytes proofs start) longest input used spans (place_of f) (is_complete f) (halt_of f)

-- what the machine of proofs reads is read of a proof
pub proofs_read : ReadsProofs → (limit top longest : ℕ) (input used : List ℕ) (spans : List (Spanned Statement)) (place : Place) (done : Bool) (stop : Option Stop) → Reads (AcceptsBytes proofs (begin limit top)) longest input used spans place done stop
    → Reads (IsProof limit top) longest input used spans place done stop
proofs_read exact limit top = formats.reads (AcceptsBytes proofs (begin limit top)) (IsProof limit top) (λ items h. (exact limit top items).0 h) (λ items h. (exact limit top items).1 h)

pub texts_read : ReadsProofs → StandingIsReading → TextsAreRead
texts_read exact reads limit top longest input spans f stands =
    let (used, r) = reads longest (begin limit top) input spans f stands in
    (used, proofs_read exact limit top longest input used spans (place_of f) (is_complete f) (halt_of f) r)

-- ---- a feeder has read its input
module _ (read : TextsAreRead) (limits : Limits) (longest : ℕ) where
  text_read : (input : List ℕ) (spans : List (Spanned Statement)) (f : ProofFeeder) (stop : Option Stop) → StandsAt longest (begin (largest limits) (top_of limits)) input spans f → halt_of f ≡ stop
      → (used : List ℕ) × Reads (IsProof (largest limits) (top_of limits)) longest input used spans (place_of f) (is_complete f) stop
  text_read input spans f stop stands halts =
      let (used, reads) = read (largest limits) (top_of limits) longest input spans f stands in
      (used, subst (λ (x : Option Stop). Reads (IsProof (largest limits) (top_of limits)) longest input used spans (place_of f) (is_complete f) x) halts reads)

-- the statements of a text are those of its spans
pub spelled_events : (format : List (Item Statement) → Type 0) (longest : ℕ) (used : List ℕ) (spans : List (Spanned Statement)) (s : IsSpelled format longest used spans) → events_at spans ≡ events_of s.items
spelled_events format longest used spans s = ap (λ (x : List (Spanned Statement)). events_at x) s.spans_are ∙ spans_events None [] s.items

-- ---- the end of the text
given : (o : Option Verdict) → IsSome o → o ≡ None → ⊥
given None i e = absurd (cc i)
given (Some x) i e = absurd (cc e)

module _ (whole : WholeProofsConclude) (limits : Limits) (longest : ℕ) (v : Problem) (first : Result State Fault) where
  -- the replay was in a state, and is in one
  pub there : (input used : List ℕ) (spans : List (Spanned Statement)) (place : Place) (now : Result State Fault) → Reads (IsProof (largest limits) (top_of limits)) longest input used spans place true None → LeadsTo limits v first (events_at spans) now → (t : State) × (now ≡ Ok t) × (verdict_at t.next t.concluded ≡ None → ⊥)
  there input used spans place now r leads =
      let s = r.answer.0 in let (pf, spells) = s.spelled in
      let same = spelled_events (IsProof (largest limits) (top_of limits)) longest used spans s ∙ spells.1 in
      by first pf (subst (λ (x : List Statement). LeadsTo limits v first x now) same leads)
    where
      by : (first : Result State Fault) (pf : Proof) → LeadsTo limits v first (Header ∷ F pf.count ∷ (pf.steps ++ Output ∷ Conclude pf.conclusion ∷ End ∷ [])) now → (t : State) × (now ≡ Ok t) × (verdict_at t.next t.concluded ≡ None → ⊥)
      by (Ok s) pf (t, is, accepted) = (t, is, given (verdict_at t.next t.concluded) (whole (largest limits) (top_of limits) v pf s t accepted))
      by (Err e) pf (none, is) = absurd (cc none)

pub shown_at : (r : Replaying) (t : State) → IsAt r (Ok t) → verdict_in r ≡ verdict_at t.next t.concluded
shown_at r t (unspent, at) = grind (arith, r.next, r.concluded, t.concluded, at.next, at.concluded)

-- ---- a checker without a fault
fed_with : (fed : Fed Statement) (event : Option (Spanned Statement)) → fed.event ≡ event → fed ≡ record { used = fed.used; event = event }
fed_with fed event e = ap (λ (x : Option (Spanned Statement)). let y : Fed Statement = record { used = fed.used; event = x } in y) e

pub running_at : (limits : Limits) (longest : ℕ) (v : Problem) (first : Result State Fault) (input : List ℕ) (f : ProofFeeder) (r : Replaying) (e : Option CheckFault) → e ≡ None → ChecksSoFar limits longest v first input f r e → IsAccepting limits longest v first input f r
running_at limits longest v first input f r None e h = h
running_at limits longest v first input f r (Some x) e h = absurd (cc e)

counts_at : (limits : Limits) (longest : ℕ) (v : Problem) (first : Result State Fault) (input : List ℕ) (f : ProofFeeder) (r : Replaying) (e : Option CheckFault) → e ≡ None → (h : IsAccepting limits longest v first input f r) (k : ℕ) → length h.spans ≡ k → CountsSoFar limits longest v first input k f r e
counts_at limits longest v first input f r None e h k many = (h, many)
counts_at limits longest v first input f r (Some x) e h k many = absurd (cc e)

counted_at : (limits : Limits) (longest : ℕ) (v : Problem) (first : Result State Fault) (input : List ℕ) (f : ProofFeeder) (r : Replaying) (e : Option CheckFault) (none : e ≡ None) (h : ChecksSoFar limits longest v first input f r e)
    → accepted_by limits longest v first input f r e h ≡ length (running_at limits longest v first input f r e none h).spans
unfolding running_at
counted_at limits longest v first input f r None e h = refl
counted_at limits longest v first input f r (Some x) e h = absurd (cc e)

module _ (read : TextsAreRead) (limits : Limits) (longest : ℕ) (v : Problem) (first : Result State Fault) (input : List ℕ) (f : ProofFeeder) (r : Replaying) (e : Option CheckFault) (none : e ≡ None) (h : ChecksSoFar limits longest v first input f r e) where
  abbrev pub now : IsAccepting limits longest v first input f r
  now = running_at limits longest v first input f r e none h

  pub running_text : halt_of f ≡ None
  running_text = now.running

  -- ---- the end of the text
  abbrev IsReported : (used : List ℕ) → Bool → Type 0
  IsReported used done = Reads (IsProof (largest limits) (top_of limits)) longest input used now.spans (place_of f) done None

  pub reported : (used : List ℕ) × IsReported used (is_complete f)
  reported = text_read read limits longest input now.spans f None now.stands now.running

  abbrev as_read : (all used : List ℕ) (place : Place) (done : Bool) (stop : Option Stop) → Reads (IsProof (largest limits) (top_of limits)) longest all used now.spans place done stop
      → IsReplayed limits longest v first all place done stop now.now
  as_read all used place done stop reads = record { used = used; spans = now.spans; reads = reads; accepted = now.accepted }

  pub replayed : IsReplayed limits longest v first input (place_of f) (is_complete f) None now.now
  replayed = as_read input reported.0 (place_of f) (is_complete f) None reported.1

  whole_text : is_complete f ≡ true → IsReplayed limits longest v first input (place_of f) true None now.now
  whole_text done = subst (λ (b : Bool). IsReplayed limits longest v first input (place_of f) b None now.now) done replayed

  pub no_verdict : WholeProofsConclude → is_complete f ≡ true → None ≡ verdict_in r → ⊥
  no_verdict whole done is =
      let text = whole_text done in
      let (t, same, some) = there whole limits longest v first input text.used text.spans (place_of f) now.now text.reads text.accepted in
      some (sym (shown_at r t (subst (λ (x : Result State Fault). IsAt r x) same now.at)) ∙ sym is)

  -- ---- with the number of the statements
  module _ (k : ℕ) (counts : accepted_by limits longest v first input f r e h ≡ k) where
    pub many : length now.spans ≡ k
    many = sym (counted_at limits longest v first input f r e none h) ∙ counts

    none_more : length now.spans ≡ k + 0
    none_more = many ∙ sym (add-zero k)

    abbrev CountedReplay : Bool → Result State Fault → Type 0
    CountedReplay done x = (all : IsReplayed limits longest v first input (place_of f) done None x) × (length all.spans ≡ k)

    counted_replay : CountedReplay (is_complete f) now.now
    counted_replay = (as_read input reported.0 (place_of f) (is_complete f) None reported.1, many)

    pub verdict_after : WholeProofsConclude → is_complete f ≡ true → (w : Verdict) → Some w ≡ verdict_in r → EndsAfter limits longest v first input k (place_of f) (Ok w)
    verdict_after whole done w is =
        let text : CountedReplay true now.now = subst (λ (b : Bool). CountedReplay b now.now) done counted_replay in
        let (t, same, some) = there whole limits longest v first input text.0.used text.0.spans (place_of f) now.now text.0.reads text.0.accepted in
        let all : CountedReplay true (Ok t) = subst (λ (x : Result State Fault). CountedReplay true x) same text in
        (t, all.0, sym (shown_at r t (subst (λ (x : Result State Fault). IsAt r x) same now.at)) ∙ sym is, all.1)

    pub cut_after : is_complete f ≡ false → EndsAfter limits longest v first input k (place_of f) (Err (Text (record { place = place_of f; why = Why.Ended })))
    cut_after done =
        let reads = subst (λ (b : Bool). IsReported reported.0 b) done reported.1 in
        let cut : Reads (IsProof (largest limits) (top_of limits)) longest input reported.0 now.spans (place_of f) false (Some (record { place = place_of f; why = Why.Ended })) =
        record { left = reads.left; input_is = reads.input_is; place_is = reads.place_is; answer = (reads.answer.0, refl, reads.answer.1) } in
        ((now.now, as_read input reported.0 (place_of f) false _ cut), many)

    -- ---- more bytes, and the statement that ended in them
    module _ (more : List ℕ) (n : ProofFeeder) where
      abbrev pub StandsOn : List (Spanned Statement) → Type 0
      StandsOn spans = StandsAt longest (begin (largest limits) (top_of limits)) (input ++ more) spans n

      pub quiet_on : StandsOn now.spans → halt_of n ≡ None → CountsSoFar limits longest v first (input ++ more) (k + 0) n r e
      quiet_on stands running =
          counts_at limits longest v first (input ++ more) n r e none (record {
            spans = now.spans;
            stands = stands;
            running = running;
            limits_are = now.limits_are;
            problem = now.problem;
            now = now.now;
            at = now.at;
            accepted = now.accepted;
          }) (k + 0) none_more

      pub halted_on : (s : Stop) → StandsOn now.spans → halt_of n ≡ Some s → CountsSoFar limits longest v first (input ++ more) (k + 0) n r (Some (Text s))
      halted_on s stands halts =
          let (used, reads) = text_read read limits longest (input ++ more) now.spans n (Some s) stands halts in
          let cut = stopped (largest limits) (top_of limits) longest (input ++ more) used now.spans (place_of n) (is_complete n) s reads in
          ((now.now, as_read (input ++ more) used (place_of n) false (Some s) cut), none_more)

      module _ (m : Spanned Statement) (stands : StandsOn (now.spans ++ m ∷ [])) (running : halt_of n ≡ None) where
        one_more : length (now.spans ++ m ∷ []) ≡ k + 1
        one_more = length-append now.spans (m ∷ []) ∙ ap (λ (j : ℕ). j + 1) many

        said : (u : List ℕ) × Reads (IsProof (largest limits) (top_of limits)) longest (input ++ more) u (now.spans ++ m ∷ []) (place_of n) (is_complete n) None
        said = text_read read limits longest (input ++ more) (now.spans ++ m ∷ []) n None stands running

        pub value_on : ReadStatements → IsStatementValue (largest r.limits) (top_of r.limits) m.event
        value_on values = subst (λ (x : Limits). IsStatementValue (largest x) (top_of x) m.event) (sym now.limits_are) (last_is_value values (largest limits) (top_of limits) longest (input ++ more) said.0 now.spans m (place_of n) (is_complete n) said.1)

        abbrev running_on : (t : Replaying) → StepsFrom r.limits r.problem now.now m (Ok tt) t → t.limits ≡ r.limits → t.problem ≡ r.problem → IsAccepting limits longest v first (input ++ more) n t
        running_on t (s, at, takes) limited problem = record {
          spans = now.spans ++ m ∷ [];
          stands = stands;
          running = running;
          limits_are = limited ∙ now.limits_are;
          problem = problem ∙ now.problem;
          now = Ok s;
          at = at;
          accepted = leads_more limits v first now.spans m now.now s now.accepted (subst (λ (x : Problem). StepsTo limits x now.now m.event s) now.problem (subst (λ (x : Limits). StepsTo x r.problem now.now m.event s) now.limits_are takes));
        }

        pub stepped_on : (t : Replaying) → Answers r m (Ok tt) t → t.limits ≡ r.limits → t.problem ≡ r.problem → CountsSoFar limits longest v first (input ++ more) (k + 1) n t e
        stepped_on t steps limited problem = counts_at limits longest v first (input ++ more) n t e none (running_on t (steps now.now now.at) limited problem) (k + 1) one_more

        kept_by : (t : Replaying) (why : Fault) → IsNamePrefix r.names t.names → ((n : ℕ) → why ≡ NotTotal n → n < length r.names) → (x : Result State Fault) → IsAt r x → KeepsNamesOf x t.names why
        kept_by t why prefix old (Ok s) at = subst (λ (y : List (List ℕ)). KeepsNames y t.names why) (sym at.1.names) (prefix, old)
        kept_by t why prefix old (Err e) at = tt

        refused_by : m.past ≡ place_of n → (rest : List ℕ) (t : Replaying) (why : Fault) → Rejects r.limits r.problem now.now m.event why → IsNamePrefix r.names t.names → ((n : ℕ) → why ≡ NotTotal n → n < length r.names) → CountsSoFar limits longest v first ((input ++ more) ++ rest) (k + 0) n t (Some (Step m.first why))
        refused_by past rest t why refuses prefix old =
            let refused : IsRefusedAt limits longest v first ((input ++ more) ++ rest) (place_of n) m.first why = record {
              used = said.0;
              left = said.1.left ++ rest;
              spans = now.spans;
              last = m;
              before = now.now;
              done = is_complete n;
              input_is = ap (λ (x : List ℕ). x ++ rest) said.1.input_is ∙ append_assoc said.0 said.1.left rest;
              reads = used_alone (largest limits) (top_of limits) longest (input ++ more) said.0 (now.spans ++ m ∷ []) (place_of n) (is_complete n) said.1;
              begins_is = refl;
              past_is = past;
              accepted = now.accepted;
              refused = subst (λ (x : Problem). Rejects limits x now.now m.event why) now.problem (subst (λ (x : Limits). Rejects x r.problem now.now m.event why) now.limits_are refuses);
            } in
            ((refused, kept_by t why prefix old now.now now.at), none_more)

        pub refused_on : m.past ≡ place_of n → (rest : List ℕ) (t : Replaying) (x : CheckFault) → Answers r m (Err x) t → IsNamePrefix r.names t.names → ReportsOld r x → CountsSoFar limits longest v first ((input ++ more) ++ rest) (k + 0) n t (Some x)
        refused_on past rest t x steps prefix old =
            let (why, is, refuses) = steps now.now now.at in
            subst (λ (y : CheckFault). CountsSoFar limits longest v first ((input ++ more) ++ rest) (k + 0) n t (Some y)) (sym is)
            (refused_by past rest t why refuses prefix (λ k h. old m.first k (ap (λ (y : CheckFault). failed y) (is ∙ ap (λ (z : Fault). Step m.first z) h))))

    -- ---- a feed and a step
    module _ (piece : List ℕ) (n : ProofFeeder) where
      pub owed : IsOpenText f.stop
      owed = subst IsOpenText (sym now.running) tt

      stands_quiet : (fed : Fed Statement) → fed.event ≡ None → FeedsOnce f piece (Ok fed) n → StandsAt longest (begin (largest limits) (top_of limits)) (input ++ piece) now.spans n
      stands_quiet fed event feeds =
          let feeds : FeedsOnce f piece (Ok (record { used = fed.used; event = None })) n = subst (λ (x : Fed Statement). FeedsOnce f piece (Ok x) n) (fed_with fed None event) feeds in
          rw append-nil at (feeds.0 longest (begin (largest limits) (top_of limits)) input now.spans owed now.stands)

      pub quiet : (fed : Fed Statement) → fed.event ≡ None → FeedsOnce f piece (Ok fed) n → halt_of n ≡ None → CountsSoFar limits longest v first (input ++ piece) (k + 0) n r e
      quiet fed event feeds running = quiet_on piece n (stands_quiet fed event feeds) running

      stands_stopped : (s : Stop) → FeedsOnce f piece (Err s) n → StandsAt longest (begin (largest limits) (top_of limits)) (input ++ piece) now.spans n
      stands_stopped s feeds = rw append-nil at (feeds.0 longest (begin (largest limits) (top_of limits)) input now.spans owed now.stands)

      pub halted : (s : Stop) → FeedsOnce f piece (Err s) n → halt_of n ≡ Some s → CountsSoFar limits longest v first (input ++ piece) (k + 0) n r (Some (Text s))
      halted s feeds halts = halted_on piece n s (stands_stopped s feeds) halts

      -- the byte at which memory ran out is one that may allocate
      pub wanted : AsksAsText limits → (s : Stop) → FeedsOnce f piece (Err s) n → halt_of n ≡ Some s → AllocatesAt limits (input ++ piece) (Text s)
      wanted may s feeds halts memory =
          let k = (stands_stopped s feeds).1 in
          let waits : Waits proofs n.machine (end_of longest n.first) k.letters k.left n.place (Some s) = subst (λ (x : Option Stop). Waits proofs n.machine (end_of longest n.first) k.letters k.left n.place x) halts k.waits in
          let stops : Halts proofs n.machine (end_of longest n.first) k.letters k.left Why.Memory = subst (λ (x : Why). Halts proofs n.machine (end_of longest n.first) k.letters k.left x) memory waits.2 in
          let (b, more, left, admits, asks, room) = stops in
          (bytes k.letters, b, more, k.input_is ∙ ap (λ (x : List ℕ). bytes k.letters ++ x) left, waits.1 ∙ k.place_is, may (bytes k.letters) b (n.machine, k.leads, asks))

      module _ (fed : Fed Statement) (m : Spanned Statement) (event : fed.event ≡ Some m) (fs : FeedsOnce f piece (Ok fed) n) (running : halt_of n ≡ None) where
        feeds : FeedsOnce f piece (Ok (record { used = fed.used; event = Some m })) n
        feeds = subst (λ (x : Fed Statement). FeedsOnce f piece (Ok x) n) (fed_with fed (Some m) event) fs

        stands : StandsAt longest (begin (largest limits) (top_of limits)) (input ++ take fed.used piece) (now.spans ++ m ∷ []) n
        stands = feeds.0 longest (begin (largest limits) (top_of limits)) input now.spans owed now.stands

        pub is_value : ReadStatements → IsStatementValue (largest r.limits) (top_of r.limits) m.event
        is_value = value_on (take fed.used piece) n m stands running

        pub stepped : (t : Replaying) → Answers r m (Ok tt) t → t.limits ≡ r.limits → t.problem ≡ r.problem → CountsSoFar limits longest v first (input ++ take fed.used piece) (k + 1) n t e
        stepped = stepped_on (take fed.used piece) n m stands running

        pub refused : m.past ≡ place_of n → (t : Replaying) (x : CheckFault) → Answers r m (Err x) t → IsNamePrefix r.names t.names → ReportsOld r x → CountsSoFar limits longest v first (input ++ piece) (k + 0) n t (Some x)
        refused past t x steps prefix old =
            subst (λ (y : List ℕ). CountsSoFar limits longest v first y (k + 0) n t (Some x))
            (append_assoc input (take fed.used piece) (drop fed.used piece) ∙ ap (λ (y : List ℕ). input ++ y) (take-append-drop fed.used piece))
            (refused_on (take fed.used piece) n m stands running past (drop fed.used piece) t x steps prefix old)

-- what a checker knows of the bytes that may allocate
pub asks_here : (f : ProofFeeder) (r : Replaying) (e : Option CheckFault) → e ≡ None → IsSomewhere f r e → (limits : Limits) (longest : ℕ) (v : Problem) (first : Result State Fault) (input : List ℕ) → ChecksSoFar limits longest v first input f r e → AsksAsText limits
asks_here f r e none (limits, longest, v, first, input, asks, h) limits' longest' v' first' input' h' =
    let one = running_at limits longest v first input f r e none h in
    let two = running_at limits' longest' v' first' input' f r e none h' in subst AsksAsText (sym one.limits_are ∙ two.limits_are) asks

-- ---- input after a fault
module _ (limit top longest : ℕ) (used left piece : List ℕ) where
  explained : (why : Why) → Counts why → Explains (IsProof limit top) longest used left why → Explains (IsProof limit top) longest used (left ++ piece) why
  explained (Why.Byte b) c (more, e, bad, digit) = (more ++ piece, ap (λ (x : List ℕ). x ++ piece) e, bad, digit)
  explained Why.TooLarge c (b, more, e, bad, digit, ends) = (b, more ++ piece, ap (λ (x : List ℕ). x ++ piece) e, bad, digit, ends)
  explained Why.TooLong c (some, full) = (λ e. some (no_prefix left piece e), full)
  explained Why.Ended c h = absurd c
  explained Why.Read c h = h
  explained Why.Memory c (b, more, e, viable, room) = (b, more ++ piece, ap (λ (x : List ℕ). x ++ piece) e, viable, room)

later : (limits : Limits) (longest : ℕ) (v : Problem) (first : Result State Fault) (input piece : List ℕ) (n : ℕ) (f : ProofFeeder) (r : Replaying) (e : CheckFault) → MayGoOn (Some e) → CountsSoFar limits longest v first input n f r (Some e) → CountsSoFar limits longest v first (input ++ piece) n f r (Some e)
later limits longest v first input piece n f r (Text s) counts ((now, h), so_many) =
    let reads : Reads (IsProof (largest limits) (top_of limits)) longest (input ++ piece) h.used h.spans (place_of f) false (Some s) = record {
      left = h.reads.left ++ piece;
      input_is = ap (λ (x : List ℕ). x ++ piece) h.reads.input_is ∙ append_assoc h.used h.reads.left piece;
      place_is = h.reads.place_is;
      answer = (h.reads.answer.0, h.reads.answer.1, explained (largest limits) (top_of limits) longest h.used h.reads.left piece s.why counts h.reads.answer.2);
    } in
    ((now, record { used = h.used; spans = h.spans; reads = reads; accepted = h.accepted }), so_many)
later limits longest v first input piece n f r (Step begins e) counts ((h, kept), so_many) =
    let refused : IsRefusedAt limits longest v first (input ++ piece) (place_of f) begins e = record {
      used = h.used;
      left = h.left ++ piece;
      spans = h.spans;
      last = h.last;
      before = h.before;
      done = h.done;
      input_is = ap (λ (x : List ℕ). x ++ piece) h.input_is ∙ append_assoc h.used h.left piece;
      reads = h.reads;
      begins_is = h.begins_is;
      past_is = h.past_is;
      accepted = h.accepted;
      refused = h.refused;
    } in
    ((refused, kept), so_many)

-- a checker that has a fault stays as it is
pub stays_counted : (c : Checking) (piece : List ℕ) (e : CheckFault) → c.fault ≡ Some e → CountsOnce c piece 0 c
stays_counted c piece e is = (λ limits longest v first input n owed h. rw add-zero (by limits longest v first input n c.fault is owed h), λ owed. owed)
  where
    by : (limits : Limits) (longest : ℕ) (v : Problem) (first : Result State Fault) (input : List ℕ) (n : ℕ) (x : Option CheckFault) → x ≡ Some e → MayGoOn x → CountsSoFar limits longest v first input n c.feeder c.replay x → CountsSoFar limits longest v first (input ++ piece) n c.feeder c.replay x
    by limits longest v first input n None is owed h = absurd (cc is)
    by limits longest v first input n (Some x) is owed h = later limits longest v first input piece n c.feeder c.replay x owed h

-- what is said with the count holds without it
pub uncounted : (old new : Checking) (piece : List ℕ) (more : ℕ) → CountsOnce old piece more new → ChecksOnce old piece new
uncounted old new piece more once =
    (λ limits longest v first input owed h. (once.0 limits longest v first input (accepted_by limits longest v first input old.feeder old.replay old.fault h) owed (h, refl)).0, once.1)

pub stays : (c : Checking) (piece : List ℕ) (e : CheckFault) → c.fault ≡ Some e → ChecksOnce c piece c
stays c piece e is = uncounted c c piece 0 (stays_counted c piece e is)

-- one part of a piece after another
pub onward_by : (input piece : List ℕ) (i n : ℕ) → (input ++ take i piece) ++ take n (take (length piece - i) (drop i piece)) ≡ input ++ take (i + n) piece
onward_by input piece i n = append_assoc input (take i piece) (take n (take (length piece - i) (drop i piece))) ∙ ap (λ (x : List ℕ). input ++ x) (sym (prefix_parts piece i n))

pub to_end : (input piece : List ℕ) (i : ℕ) → (input ++ take i piece) ++ take (length piece - i) (drop i piece) ≡ input ++ piece
to_end input piece i =
    append_assoc input (take i piece) (take (length piece - i) (drop i piece)) ∙ ap (λ (x : List ℕ). input ++ x) (ap (λ (x : List ℕ). take i piece ++ x) (all_rest piece i) ∙ take-append-drop i piece)

pub to_more : (b : Bool) (used : ℕ) (piece : List ℕ) → not b ≡ false → bytes_to b used piece ≡ take used piece
to_more true used piece h = refl
to_more false used piece h = absurd (cc h)

pub to_all : (b : Bool) (used : ℕ) (piece : List ℕ) → not b ≡ true → bytes_to b used piece ≡ piece
to_all true used piece h = absurd (cc h)
to_all false used piece h = refl

-- ---- feeds in a row
module _ (read : TextsAreRead) (limits : Limits) (longest : ℕ) (v : Problem) (first : Result State Fault) where
  row : (input : List ℕ) (before after : Checking) (pieces : List (List ℕ)) → ChecksAt limits longest v first input before → MayGoOn (fault_of before) → FeedsInTurn before pieces after → ChecksAt limits longest v first (input ++ joined pieces) after
  row input before after [] h owed e = subst (λ (x : Checking). ChecksAt limits longest v first (input ++ []) x) e (rw append-nil h)
  row input before after (piece ∷ pieces) h owed (mid, once, rest) =
      subst (λ (x : List ℕ). ChecksAt limits longest v first x after) (append_assoc input piece (joined pieces))
      (row (input ++ piece) mid after pieces (once.0 limits longest v first input owed h) (once.1 owed) rest)

  seen : (input : List ℕ) (c : Checking) (x : Option CheckFault) → ChecksSoFar limits longest v first input c.feeder c.replay x → Checks limits longest v first input (place_in c) (is_whole c) x
  seen input c None h = ((now read limits longest v first input c.feeder c.replay None refl h).now, replayed read limits longest v first input c.feeder c.replay None refl h)
  seen input c (Some (Text s)) h = h
  seen input c (Some (Step begins e)) h = h.0

pub any_cutting : TextsAreRead → AnyCutting
any_cutting read limits longest v first before after pieces h owed feeds =
    seen read limits longest v first (joined pieces) after after.fault (row read limits longest v first [] before after pieces h owed feeds)

-- ---- a replay is in some state
pub somewhere : (r : Replaying) → (r.fault ≡ None → (s : State) × StandsFor r s × IsSound r.problem s) → (first : Result State Fault) × IsAt r first
somewhere r sound = by r.fault refl
  where
    by : (o : Option Fault) → r.fault ≡ o → (first : Result State Fault) × IsAt r first
    by None e = let (s, at, right) = sound e in (Ok s, (e, at))
    by (Some x) e = (Err x, e)

pub leads_none : (limits : Limits) (v : Problem) (first : Result State Fault) → LeadsTo limits v first [] first
leads_none limits v (Ok s) = (s, refl, refl)
leads_none limits v (Err e) = (refl, refl)

-- ---- a checker that was fed nothing yet
pub begun_counts : (longest : ℕ) (r : Replaying) (c : Checking) → Begins longest r c → fault_of c ≡ None → (first : Result State Fault) → IsAt r first → CountsAt r.limits longest r.problem first [] 0 c
begun_counts longest r c b none first at =
    counts_at r.limits longest r.problem first [] c.feeder c.replay c.fault none (record {
      spans = [];
      stands = b.stands;
      running = b.running;
      limits_are = ap (λ (x : Replaying). x.limits) b.replay;
      problem = ap (λ (x : Replaying). x.problem) b.replay;
      now = first;
      at = subst (λ (x : Replaying). IsAt x first) (sym b.replay) at;
      accepted = leads_none r.limits r.problem first;
    }) 0 refl

-- ---- after whole statements none is unfinished
length_plain : (gap : List ℕ) → length (plain gap) ≡ length gap
length_plain gap = length-map gap (λ (b : ℕ). let l : Letter = record { byte = b; numeral = false } in l)

module _ {E : Type 0} where
  letters_joined : (a b : List (Item E)) → letters_of (a ++ b) ≡ letters_of a ++ letters_of b
  letters_joined [] b = refl
  letters_joined (i ∷ a) b = simp (letters_joined a b, append_assoc)

  bytes_joined : (a b : List (Item E)) → bytes_of (a ++ b) ≡ bytes_of a ++ bytes_of b
  bytes_joined a b = ap bytes (letters_joined a b) ∙ bytes-append (letters_of a) (letters_of b)

  -- the length of a text with one more statement
  length_item : (before : List ℕ) (i : Item E) → length (before ++ (i.gap ++ bytes i.text)) ≡ length before + (length i.gap + length i.text)
  length_item before i = omega (arith, length-append before (i.gap ++ bytes i.text), length-append i.gap (bytes i.text), length-bytes i.text)

  -- statements that begin after the first n bytes have none of these
  past_all : (n : ℕ) (before : List ℕ) (items : List (Item E)) → n ≤ length before → open_bytes n (spans_since None before items) ≡ 0
  past_all n before [] h = refl
  past_all n before (i ∷ items) h =
      grind (arith, nat_tests, place_after-offset, length-append, length_item before i, past_all n (before ++ (i.gap ++ bytes i.text)) items)

  none_open : (n : ℕ) (before : List ℕ) (begun rest : List (Item E)) → n ≡ length before + length (letters_of begun) → open_bytes n (spans_since None before (begun ++ rest)) ≡ 0
  none_open n before [] rest h = let all : n ≡ length before + 0 = h in past_all n before rest (omega (arith, all))
  none_open n before (i ∷ begun) rest h =
      let joined : length (letters_of (i ∷ begun)) ≡ length (plain i.gap) + length (i.text ++ letters_of begun) = length-append (plain i.gap) (i.text ++ letters_of begun) in
      let all : length (letters_of (i ∷ begun)) ≡ length i.gap + (length i.text + length (letters_of begun)) = omega (arith, joined, length-append i.text (letters_of begun), length_plain i.gap) in
      grind (arith, nat_tests, place_after-offset, length_item before i, none_open n (before ++ (i.gap ++ bytes i.text)) begun rest)

-- ---- all of the input was read
module _ (apart : PrefixFree) (limit top longest : ℕ) (used left : List ℕ) (spans : List (Spanned Statement)) (place : Place) (begun rest : List (Item Statement)) (whole : IsProof limit top (begun ++ rest)) (is : used ++ left ≡ bytes_of begun) where
  nothing_left : (done : Bool) → AnswersText (IsProof limit top) longest used left spans place done None → left ≡ []
  nothing_left false (under, none) = none
  nothing_left true (s, none) =
      no_prefix left (bytes_of rest) (apart limit top s.items (begun ++ rest) (left ++ bytes_of rest) s.spelled whole
      (bytes_joined begun rest ∙ (ap (λ (x : List ℕ). x ++ bytes_of rest) (sym is) ∙ (append_assoc used left (bytes_of rest) ∙ ap (λ (x : List ℕ). x ++ (left ++ bytes_of rest)) (sym s.used_are)))))

module _ (exact : ReadsProofs) (limits : Limits) (longest : ℕ) (v : Problem) (first : Result State Fault) (input : List ℕ) (f : ProofFeeder) (r : Replaying) (e : Option CheckFault) (none : e ≡ None) (h : ChecksSoFar limits longest v first input f r e) (held : ℕ)
    (few : (longest : ℕ) (start : ProofState) (input : List ℕ) (spans : List (Spanned Statement)) → StandsAt longest start input spans f → HoldsFew start input f held) where
  pub open_at : HoldsOpen limits input (place_of f) held
  open_at =
      let now = running_at limits longest v first input f r e none h in
      let (used, n, prefix, place, opens, bound) = few longest (begin (largest limits) (top_of limits)) input now.spans now.stands in
      (used, n, prefix, place, λ items k at. opens items ((exact (largest limits) (top_of limits) items).1 k) at, bound)

  pub none_at : PrefixFree → TextsAreRead → EndsStatement limits input → held ≡ 0
  none_at apart read (begun, rest, whole, is) =
      let now = running_at limits longest v first input f r e none h in
      let (taken, reported) = reported read limits longest v first input f r e none h in
      let left = nothing_left apart (largest limits) (top_of limits) longest taken reported.left now.spans (place_of f) begun rest whole (sym reported.input_is ∙ is) (is_complete f) reported.answer in
      let (used, n, prefix, place, opens, bound) = open_at in
      let as_long : length used ≡ length taken = sym (place_after-offset used) ∙ (ap (λ (x : Place). x.offset) (sym place ∙ reported.place_is) ∙ place_after-offset taken) in
      let all_taken : length input ≡ length taken = omega (arith, ap length reported.input_is, length-append taken reported.left, ap length left) in
      let same : used ≡ input = same_prefix used input prefix.0 [] (sym prefix.1 ∙ sym (append-nil input)) (as_long ∙ sym all_taken) in
      let long : length used ≡ length (letters_of begun) = ap length (same ∙ is) ∙ length-bytes (letters_of begun) in
      let text : bytes_of (begun ++ rest) ≡ used ++ bytes_of rest = bytes_joined begun rest ∙ ap (λ (x : List ℕ). x ++ bytes_of rest) (sym (same ∙ is)) in
      let closed : n ≡ 0 = sym (opens (begun ++ rest) whole (bytes_of rest, text)) ∙ none_open (length used) [] begun rest (omega (arith, long)) in
      omega (arith, bound, closed)
