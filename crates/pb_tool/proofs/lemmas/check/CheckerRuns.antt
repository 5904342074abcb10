-- A run of a replay and of a checker through the statements of a source: what it ensures, and the calls that a watch gets.
use Rattle.{pb_proof.specs.declared.Stage.TheVariants.Complete, pb_tool.proofs.lemmas.file.GivenBytes.of_both}
use Rattle.pb_text.specs.contract.{Automaton.AcceptsItems as AcceptsBytes, Standing.IsOpen as IsOpenText}
use Rattle.pb_tool.proofs.Common.{ℕ, ◌++◌, ◌∙◌, ◌∷◌, ◌≡◌, ◌⊎◌, [], ap, Bool, Err, false, inl, inr, List, None, Ok, Option, refl, rules, Some, subst, sym, true}
use Rattle.pb_tool.proofs.Common.{ReadsProofs, Stage, Statement, begin, proofs, Replaying, StandsFor, verdict_at, verdict_in, Fault, Verdict, IsNamePrefix}
use Rattle.pb_tool.proofs.Common.{Problem, State, Accepts, MayWantAt, Outcome, asking_to, MayAsk, Limits, Place, Spanned, Stop, largest, top_of, TookAll}
use Rattle.pb_tool.proofs.Common.{TookSoFar, Reads, Item, IsAsking, events_at, KeepsNames, Rejects, StepsTo, RunsProof, Accepted, Call, GotEach, HasSeen}
use Rattle.pb_tool.proofs.Common.{Rejected, ShowsEach, ShowsRun, CheckFault, HasShown, AsksInProofText, IsProofText, IsAccepted, ◌^◌, ◌≤◌, append-nil, arith}
use Rattle.pb_tool.proofs.Common.{Result, ReadStatements, IsStatementValue, ProofState, WholeProofsConclude, length-bytes, place_after-offset, halt_of}
use Rattle.pb_tool.proofs.Common.{is_complete, place_of, StandsAt, stop_of, OfGiven, Pulls, PullsOn, AsksAsText, Checking, ChecksSoFar, IsSomewhere}
use Rattle.pb_tool.proofs.Common.{ProofFeeder, TextsAreRead, SawText, Begins, HasRun, IsRun, RunsTo}
use Rattle.pb_tool.proofs.lemmas.check.CheckerSteps.{Answers, ReportsOld, accepts_more, failed, proofs_read, shown_at, running_at}
use Rattle.pb_tool.proofs.lemmas.show.ShownStatements.{all_to, so_far_to, given_next, given_row, first_pull}
use Rattle.pb_tool.proofs.lemmas.check.CheckerSteps as checked

claimed : (p : Stage) (c : Option Verdict) (w : Verdict) → verdict_at p c ≡ Some w → c ≡ Some w
claimed Complete c w h = h
claimed p c w h = absurd (cc h)

-- what the machine of proofs accepts
abbrev pub Taken : Limits → List (Item Statement) → Type 0
Taken limits = AcceptsBytes proofs (begin (largest limits) (top_of limits))

abbrev pub MayTake : Limits → List ℕ → ℕ → Type 0
MayTake limits = MayAsk proofs (begin (largest limits) (top_of limits))

module _ (exact : ReadsProofs) (limits : Limits) (longest : ℕ) where
  abbrev IsRead : List ℕ → List ℕ → List (Spanned Statement) → Place → Bool → Option Stop → Type 0
  IsRead = Reads (Taken limits) longest

  pub to_proof : (input used : List ℕ) (spans : List (Spanned Statement)) (place : Place) (done : Bool) (stop : Option Stop) → IsRead input used spans place done stop → Reads (IsProofText limits) longest input used spans place done stop
  to_proof = proofs_read exact (largest limits) (top_of limits) longest

  module _ (before after : Option (List ℕ)) where
    abbrev HasAll : List (Spanned Statement) → Place → Bool → Option Stop → Type 0
    HasAll = TookAll (Taken limits) longest before after

    abbrev HasSoFar : List (Spanned Statement) → Place → Type 0
    HasSoFar = TookSoFar (Taken limits) longest before after

    abbrev read_all : (spans : List (Spanned Statement)) (place : Place) (done : Bool) (stop : Option Stop) → HasAll spans place done stop → TookAll (IsProofText limits) longest before after spans place done stop
    read_all = all_to (Taken limits) (IsProofText limits) longest to_proof before before (λ after used seen t. t) after

    read_so_far : (spans : List (Spanned Statement)) (place : Place) → HasSoFar spans place → TookSoFar (IsProofText limits) longest before after spans place
    read_so_far = so_far_to (Taken limits) (IsProofText limits) longest to_proof before before (λ after used seen t. t) after

    module _ (v : Problem) (first : State) (r : Replaying) (spans : List (Spanned Statement)) (led : (t : State) × StandsFor r t × Accepts (largest limits) (top_of limits) v first (events_at spans) t) where
      abbrev pub accepted : (place : Place) (done : Bool) (stop : Option Stop) → HasAll spans place done stop → IsAccepted limits longest v first before after place done stop led.0
      accepted place done stop all = record { spans = spans; took = read_all spans place done stop all; accepted = led.2 }

      pub stopped : ((used : List ℕ) (b : ℕ) → MayTake limits used b → AsksInProofText limits used b) → (s : Stop) → (all : HasAll spans s.place false (Some s)) × IsAsking (MayTake limits) all.used all.seen s.why
          → (t : State) × (a : IsAccepted limits longest v first before after s.place false (Some s) t) × IsAsking (AsksInProofText limits) a.took.used a.took.seen s.why
      stopped asks s (all, asking) = (led.0, accepted s.place false (Some s) all, asking_to (MayTake limits) (AsksInProofText limits) all.used all.seen (asks all.used) s.why asking)

      module _ (none : r.fault ≡ None) where
        pub ended : (place : Place) (w : Verdict) → HasAll spans place true None → Some w ≡ verdict_in r → (t : State) × IsAccepted limits longest v first before after place true None t × (t.concluded ≡ Some w)
        ended place w all is = (led.0, accepted place true None all, claimed led.0.next led.0.concluded w (sym (shown_at r led.0 (none, led.1)) ∙ sym is))

        module _ (new : Replaying) (m : Spanned Statement) (limited : r.limits ≡ limits) (problem : r.problem ≡ v) where
          pub led_more : Answers r m (Ok tt) new → (t : State) × StandsFor new t × Accepts (largest limits) (top_of limits) v first (events_at (spans ++ m ∷ [])) t
          led_more steps =
              let (s, at, takes) = steps (Ok led.0) (none, led.1) in (
                s,
                at.1,
                accepts_more (largest limits) (top_of limits) v spans m first led.0 s led.2 (subst (λ (x : Problem). StepsTo limits x (Ok led.0) m.event s) problem (subst (λ (x : Limits). StepsTo x r.problem (Ok led.0) m.event s) limited takes)),
              )

          reported : (e : Fault) → KeepsNames led.0.names new.names e → Rejects limits v (Ok led.0) m.event e
              → ((e ≡ Fault.Memory) × MayWantAt (largest limits) (top_of limits) v led.0.next m.event) ⊎ (Outcome (largest limits) (top_of limits) v led.0 m.event (Err e) × KeepsNames led.0.names new.names e)
          reported e names (inl h) = inl h
          reported e names (inr h) = inr (h, names)

          pub refused_run : (x : CheckFault) → Answers r m (Err x) new → IsNamePrefix r.names new.names → ReportsOld r x → HasSoFar (spans ++ m ∷ []) m.past → RunsProof limits longest v first before (Err x) after new
          refused_run x steps names old t =
              let (e, is, refuses) = steps (Ok led.0) (none, led.1) in
              let here = subst (λ (y : Problem). Rejects limits y (Ok led.0) m.event e) problem (subst (λ (y : Limits). Rejects y r.problem (Ok led.0) m.event e) limited refuses) in
              subst (λ (y : CheckFault). RunsProof limits longest v first before (Err y) after new) (sym is) (
                m.event,
                led.0,
                record { spans = spans; last = m; took = read_so_far (spans ++ m ∷ []) m.past t; begins_is = refl; statement = refl; accepted = led.2 },
                reported e (subst (λ (y : List (List ℕ)). KeepsNames y new.names e) (sym led.1.names) (names, λ n h. old m.first n (ap (λ (y : CheckFault). failed y) (is ∙ ap (λ (f : Fault). CheckFault.Step m.first f) h)))) here,
              )

-- ---- the calls that a watch gets for the statements of a proof

module _ {V : Type 0} (got : V → Call → V → Type 0) where
  -- one call more
  pub got_more : (old : V) (calls : List Call) (mid : V) (call : Call) (new : V) → GotEach got old calls mid → got mid call new → GotEach got old (calls ++ call ∷ []) new
  got_more old [] mid call new h k = (new, subst (λ (x : V). got x call new) h k, refl)
  got_more old (c ∷ calls) mid call new (next, first, rest) k = (next, first, got_more next calls mid call new rest k)

module _ (limits : Limits) (v : Problem) where
  -- one statement more
  pub shows_more : (s : State) (spans : List (Spanned Statement)) (calls : List Call) (t : State) (m : Spanned Statement) (r : Replaying) (u : State)
      → ShowsEach limits v s spans calls t → Outcome (largest limits) (top_of limits) v t m.event (Ok u) → StandsFor r u → r.fault ≡ None
      → ShowsEach limits v s (spans ++ m ∷ []) (calls ++ Accepted m r ∷ []) u
  shows_more s [] [] t m r u h out at none = (refl, u, subst (λ (x : State). Outcome (largest limits) (top_of limits) v x m.event (Ok u)) (sym h) out, at, none, refl)
  shows_more s (n ∷ spans) (Accepted k q ∷ calls) t m r u (same, a, does, is, runs, rest) out at none =
      (same, a, does, is, runs, shows_more a spans calls t m r u rest out at none)
  shows_more s spans calls t m r u h out at none = absurd h

module _ {V : Type 0} (got : V → Call → V → Type 0) (old : V) (began : Replaying) where
  pub shown_first : HasShown got old began [] old began
  shown_first = ([], refl, λ first at. (first, at, refl))

  module _ (spans : List (Spanned Statement)) (mid : V) (r : Replaying) (h : HasShown got old began spans mid r) (m : Spanned Statement) (new : Replaying) (after : V) (none : r.fault ≡ None) (limited : r.limits ≡ began.limits) (problem : r.problem ≡ began.problem) where
    -- the state after an accepted statement
    next_shown : Answers r m (Ok tt) new → (first : State) → StandsFor began first → (t : State) × StandsFor new t × ShowsEach began.limits began.problem first (spans ++ m ∷ []) (h.0 ++ Accepted m new ∷ []) t
    next_shown steps first at =
        let (t, stands, shows) = h.2 first at in let (u, now, takes) = steps (Ok t) (none, stands) in
        let here = subst (λ (x : Problem). StepsTo began.limits x (Ok t) m.event u) problem (subst (λ (x : Limits). StepsTo x r.problem (Ok t) m.event u) limited takes) in
        (u, now.1, shows_more began.limits began.problem first spans h.0 t m new u shows here now.1 now.0)

    pub shown_next : Answers r m (Ok tt) new → got mid (Accepted m new) after → HasShown got old began (spans ++ m ∷ []) after new
    shown_next steps call = (h.0 ++ Accepted m new ∷ [], got_more got old h.0 mid (Accepted m new) after h.1 call, next_shown steps)

    module _ (exact : ReadsProofs) (longest : ℕ) (first : State) (at : StandsFor began first) (x : CheckFault) where
      -- a rejected statement
      pub shown_rejected : (before rest : Option (List ℕ)) → Answers r m (Err x) new → IsNamePrefix r.names new.names → ReportsOld r x → got mid (Rejected m new x) after
          → TookSoFar (Taken began.limits) longest before rest (spans ++ m ∷ []) m.past → ShowsRun began.limits longest got began.problem first before old (Err x) rest after
      shown_rejected before rest steps names reports call t =
          let (last, stands, shows) = h.2 first at in let (e, is, refuses) = steps (Ok last) (none, stands) in
          subst (λ (y : CheckFault). ShowsRun began.limits longest got began.problem first before old (Err y) rest after) (sym is) (record {
            spans = spans;
            rejected = m;
            took = so_far_to (Taken began.limits) (IsProofText began.limits) longest (to_proof exact began.limits longest) before before (λ after used seen k. k) rest (spans ++ m ∷ []) m.past t;
            begins_is = refl;
            calls = h.0;
            last = last;
            shows = shows;
            replay = new;
            names = subst (λ (y : List (List ℕ)). KeepsNames y new.names e) (sym stands.names) (names, λ n k. reports m.first n (ap (λ (y : CheckFault). failed y) (is ∙ ap (λ (f : Fault). CheckFault.Step m.first f) k)));
            got_are = subst (λ (y : CheckFault). GotEach got old (h.0 ++ Rejected m new y ∷ []) after) is (got_more got old h.0 mid (Rejected m new x) after h.1 call);
          })

  module _ (exact : ReadsProofs) (longest : ℕ) (first : State) (at : StandsFor began first) (spans : List (Spanned Statement)) (new : V) (r : Replaying) (h : HasShown got old began spans new r) where
    -- all that was read
    pub shown_all : (before rest : Option (List ℕ)) (place : Place) (done : Bool) (stop : Option Stop) → TookAll (Taken began.limits) longest before rest spans place done stop → HasSeen began.limits longest got began.problem first before old rest place done stop new
    shown_all before rest place done stop t =
        let (last, stands, shows) = h.2 first at in
        let took = all_to (Taken began.limits) (IsProofText began.limits) longest (to_proof exact began.limits longest) before before (λ after used seen k. k) rest spans place done stop t in
        search rules

-- what a pull ensures, whatever the feeder was fed before
abbrev pub PullsFrom : ProofFeeder → Option (List ℕ) → Result (Option (Spanned Statement)) Stop → ProofFeeder → Option (List ℕ) → List ℕ → List ℕ → Type 0
PullsFrom f left result n rest given given' =
    (longest : ℕ) (start : ProofState) (input : List ℕ) (spans : List (Spanned Statement)) → IsOpenText (halt_of f) → StandsAt longest start input spans f → Pulls longest start input spans f left result n rest given given'

-- what was read ends within the limit on all bytes
pub in_reach : (longest : ℕ) (start : ProofState) (input : List ℕ) (spans : List (Spanned Statement)) (f : ProofFeeder) → StandsAt longest start input spans f → (place_of f).offset ≤ 2 ^ 40
in_reach longest start input spans f s = grind (arith, s.1, place_after-offset, f.first, length-bytes)

-- ---- a checker is still one that was fed some text

module _ (read : TextsAreRead) (f : ProofFeeder) (r : Replaying) (e : Option CheckFault) (none : e ≡ None) (n : ProofFeeder) (left rest : Option (List ℕ)) (given given' : List ℕ) where
  pulled : (limits : Limits) (longest : ℕ) (v : Problem) (first : Result State Fault) (input : List ℕ) (h : ChecksSoFar limits longest v first input f r e)
      (result : Result (Option (Spanned Statement)) Stop) → PullsFrom f left result n rest given given'
      → Pulls longest (begin (largest limits) (top_of limits)) input (running_at limits longest v first input f r e none h).spans f left result n rest given
      given'
  pulled limits longest v first input h result pulls =
      let here = running_at limits longest v first input f r e none h in
      pulls longest (begin (largest limits) (top_of limits)) input here.spans (subst IsOpenText (sym here.running) tt) here.stands

  pub stopped_somewhere : IsSomewhere f r e → (s : Stop) → PullsFrom f left (Err s) n rest given given' → halt_of n ≡ Some s → IsSomewhere n r (Some (CheckFault.Text s))
  stopped_somewhere (limits, longest, v, first, input, asks, h) s pulls halts =
      let p = pulled limits longest v first input h (Err s) pulls in
      (limits, longest, v, first, input ++ (p.taken ++ p.seen), asks, (checked.halted_on read limits longest v first input f r e none h _ refl (p.taken ++ p.seen) n s (rw append-nil at p.stands) halts).0)

  -- the proof has ended
  pub ended_somewhere : IsSomewhere f r e → PullsFrom f left (Ok None) n rest given given' → halt_of n ≡ None → IsSomewhere n r e
  ended_somewhere (limits, longest, v, first, input, asks, h) pulls running =
      let p = pulled limits longest v first input h (Ok None) pulls in
      let quiet = checked.quiet_on read limits longest v first input f r e none h _ refl (p.taken ++ p.seen) n (rw append-nil at p.stands) running in
      (limits, longest, v, first, input ++ (p.taken ++ p.seen), asks, quiet.0)

  -- at its end there is a verdict
  pub ends_with_verdict : IsSomewhere f r e → PullsFrom f left (Ok None) n rest given given' → halt_of n ≡ None → WholeProofsConclude → is_complete n ≡ true → None ≡ verdict_in r → ⊥
  ends_with_verdict at pulls running whole done is =
      let (limits, longest, v, first, input, asks, h) = ended_somewhere at pulls running in
      checked.no_verdict read limits longest v first input n r e none h whole done is

  module _ (m : Spanned Statement) (pulls : PullsFrom f left (Ok (Some m)) n rest given given') (running : halt_of n ≡ None) where
    pub value_here : IsSomewhere f r e → ReadStatements → IsStatementValue (largest r.limits) (top_of r.limits) m.event
    value_here (limits, longest, v, first, input, asks, h) values =
        let p = pulled limits longest v first input h (Ok (Some m)) pulls in
        checked.value_on read limits longest v first input f r e none h _ refl p.taken n m p.stands running values

    pub within_reach : IsSomewhere f r e → (place_of n).offset ≤ 2 ^ 40
    within_reach (limits, longest, v, first, input, asks, h) =
        let p = pulled limits longest v first input h (Ok (Some m)) pulls in
        in_reach longest (begin (largest limits) (top_of limits)) (input ++ p.taken) _ n p.stands

    pub stepped_somewhere : IsSomewhere f r e → (t : Replaying) → Answers r m (Ok tt) t → t.limits ≡ r.limits → t.problem ≡ r.problem → IsSomewhere n t e
    stepped_somewhere (limits, longest, v, first, input, asks, h) t steps limited problem =
        let p = pulled limits longest v first input h (Ok (Some m)) pulls in
        (limits, longest, v, first, input ++ p.taken, asks, (checked.stepped_on read limits longest v first input f r e none h _ refl p.taken n m p.stands running t steps limited problem).0)

    pub refused_somewhere : m.past ≡ place_of n → IsSomewhere f r e → (t : Replaying) (x : CheckFault) → Answers r m (Err x) t → IsNamePrefix r.names t.names → ReportsOld r x → IsSomewhere n t (Some x)
    refused_somewhere past (limits, longest, v, first, input, asks, h) t x steps names reports =
        let p = pulled limits longest v first input h (Ok (Some m)) pulls in
        (limits, longest, v, first, (input ++ p.taken) ++ [], asks, (checked.refused_on read limits longest v first input f r e none h _ refl p.taken n m p.stands running past [] t x steps names reports).0)

-- the feeder had not stopped
pub was_running : (f : ProofFeeder) (r : Replaying) (e : Option CheckFault) → e ≡ None → IsSomewhere f r e → halt_of f ≡ None
was_running f r e none (limits, longest, v, first, input, asks, h) = (running_at limits longest v first input f r e none h).running

-- ---- what a step says that needs no text

-- what it knows of the bytes that may allocate
pub asks_now : (f : ProofFeeder) (r : Replaying) (e : Option CheckFault) → e ≡ None → IsSomewhere f r e → AsksAsText r.limits
asks_now f r e none (limits, longest, v, first, input, asks, h) = subst AsksAsText (sym (running_at limits longest v first input f r e none h).limits_are) asks

module _ (f : ProofFeeder) (r : Replaying) (e : Option CheckFault) (none : e ≡ None) (m : Spanned Statement) (t : Replaying) where
  -- an accepted statement leaves the replay without a fault
  pub unspent_on : IsSomewhere f r e → Answers r m (Ok tt) t → t.fault ≡ None
  unspent_on (limits, longest, v, first, input, asks, h) steps =
      let here = running_at limits longest v first input f r e none h in (steps here.now here.at).1.0

  module _ (x : CheckFault) (steps : Answers r m (Err x) t) where
    -- a rejected statement is not a text that stopped the reader
    pub unseen_on : IsSomewhere f r e → (shown : Option ℕ) (ended : Bool) → SawText shown ended x
    unseen_on (limits, longest, v, first, input, asks, h) shown ended =
        let here = running_at limits longest v first input f r e none h in let (why, is, refuses) = steps here.now here.at in
        subst (SawText shown ended) (sym is) tt

-- ---- a run through the statements of a source

-- nothing was pulled yet
pub run_begins : (longest : ℕ) (began : Replaying) {V : Type 0} (got : V → Call → V → Type 0) (c : Checking) → Begins longest began c → c.replay.fault ≡ None → (left : Option (List ℕ)) (given : List ℕ) (old : V) → HasRun longest began got left given old c left given old
run_begins longest began {V} got c b unspent left given old = record {
  spans = [];
  unspent = unspent;
  limited = ap (λ (x : Replaying). x.limits) b.replay;
  problem = ap (λ (x : Replaying). x.problem) b.replay;
  pulled = first_pull longest (begin (largest began.limits) (top_of began.limits)) left c.feeder b.stands b.running b.start;
  led = λ first at. (first, subst (λ (x : Replaying). StandsFor x first) (sym b.replay) at, refl);
  given = ([], sym (append-nil given), b.start, b.stands, b.running);
  shown = subst (λ (x : Replaying). HasShown got old began [] old x) (sym b.replay) (shown_first got old began);
}

abbrev start_of : Replaying → ProofState
start_of began = begin (largest began.limits) (top_of began.limits)

module _ (exact : ReadsProofs) (longest : ℕ) (began : Replaying) {V : Type 0} (got : V → Call → V → Type 0) (before : Option (List ℕ)) (since : List ℕ) (old : V)
    (f : ProofFeeder) (r : Replaying) (e : Option CheckFault) (left : Option (List ℕ)) (given : List ℕ) (mid : V) (i : HasRun longest began got before since old (record { feeder = f; replay = r; fault = e }) left given mid)
    (n : ProofFeeder) (rest : Option (List ℕ)) (given' : List ℕ) where
  -- one more pull is part of a read of what the calls have given
  row_given : (result : Result (Option (Spanned Statement)) Stop) → PullsFrom f left result n rest given given' → halt_of n ≡ stop_of result → (result ≡ Ok None → is_complete n ≡ true) → ((m : Spanned Statement) → result ≡ Ok (Some m) → m.past ≡ place_of n)
      → OfGiven (λ text end. PullsOn longest (start_of began) text i.spans result n end) since given'
  row_given result pulls stop last past = given_row since given given' i.given pulls stop last past

  -- one statement more
  pub runs_more : (m : Spanned Statement) → PullsOn longest (start_of began) before i.spans (Ok (Some m)) n rest → PullsFrom f left (Ok (Some m)) n rest given given' → halt_of n ≡ None → (t : Replaying) → t.fault ≡ None → Answers r m (Ok tt) t → t.limits ≡ r.limits → t.problem ≡ r.problem
      → (new : V) → got mid (Accepted m t) new → HasRun longest began got before since old (record { feeder = n; replay = t; fault = e }) rest given' new
  runs_more m row pulls running t unspent steps limited problem new call = record {
    spans = i.spans ++ m ∷ [];
    unspent = unspent;
    limited = limited ∙ i.limited;
    problem = problem ∙ i.problem;
    pulled = row.0;
    led = λ first at. led_more exact began.limits longest before rest began.problem first r i.spans (i.led first at) i.unspent t m i.limited i.problem steps;
    given = given_next since given given' i.given m pulls running;
    shown = shown_next got old began i.spans mid r i.shown m t new i.unspent i.limited i.problem steps call;
  }

  -- a rejected statement
  pub runs_refused : (m : Spanned Statement) → PullsOn longest (start_of began) before i.spans (Ok (Some m)) n rest → PullsFrom f left (Ok (Some m)) n rest given given' → halt_of n ≡ None → ((k : Spanned Statement) → ◌≡◌ {A = Result (Option (Spanned Statement)) Stop} (Ok (Some m)) (Ok (Some k)) → k.past ≡ place_of n)
      → (t : Replaying) (x : CheckFault) → Answers r m (Err x) t → IsNamePrefix r.names t.names → ReportsOld r x → (new : V) → got mid (Rejected m t x) new → RunsTo longest began got before since old (Err x) t rest given' new
  runs_refused m row pulls running past t x steps names reports new call first at =
      of_both {P = λ left end. PullsOn longest (start_of began) left i.spans (Ok (Some m)) n end} {Q = IsRun longest began got old first (Err x) t new}
      before since rest given' (λ left end on. record {
        runs =
            refused_run exact began.limits longest left end began.problem first r i.spans (i.led first at) i.unspent t m i.limited i.problem x steps
            names reports on.1;
        shown =
            shown_rejected got old began i.spans mid r i.shown m t new i.unspent i.limited i.problem exact longest first at x left end steps names reports
            call on.1;
      }) (row, row_given (Ok (Some m)) pulls running (λ is. absurd (cc is)) past)

  -- a text that stopped
  pub runs_stopped : AsksAsText began.limits → (s : Stop) → PullsOn longest (start_of began) before i.spans (Err s) n rest → PullsFrom f left (Err s) n rest given given' → halt_of n ≡ Some s → RunsTo longest began got before since old (Err (CheckFault.Text s)) r rest given' mid
  runs_stopped asks s row pulls halts first at =
      of_both {P = λ left end. PullsOn longest (start_of began) left i.spans (Err s) n end}
      {Q = IsRun longest began got old first (Err (CheckFault.Text s)) r mid}
      before since rest given' (λ left end on. record {
        runs = stopped exact began.limits longest left end began.problem first r i.spans (i.led first at) asks s on;
        shown = shown_all got old began exact longest first at i.spans mid r i.shown left end s.place false (Some s) on.0;
      }) (row, row_given (Err s) pulls halts (λ is. absurd (cc is)) (λ m is. absurd (cc is)))

  -- a proof that has ended
  pub runs_ended : (w : Verdict) → Some w ≡ verdict_in r → PullsOn longest (start_of began) before i.spans (Ok None) n rest → PullsFrom f left (Ok None) n rest given given' → halt_of n ≡ None → is_complete n ≡ true
      → RunsTo longest began got before since old (Ok (w, place_of n)) r rest given' mid
  runs_ended w is row pulls running done first at =
      of_both {P = λ left end. PullsOn longest (start_of began) left i.spans (Ok None) n end} {Q = IsRun longest began got old first (Ok (w, place_of n)) r mid}
      before since rest given' (λ left end on. record {
        runs = ended exact began.limits longest left end began.problem first r i.spans (i.led first at) i.unspent (place_of n) w on is;
        shown = shown_all got old began exact longest first at i.spans mid r i.shown left end (place_of n) true None on;
      }) (row, row_given (Ok None) pulls running (λ _. done) (λ m bad. absurd (cc bad)))
