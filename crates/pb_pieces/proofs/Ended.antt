-- A session at its end, and at its beginning.
use Rattle.pb_pieces.proofs.Common.{ℕ, ◌∙◌, ◌≡◌, [], ap, append-nil, arith, Bor, drop, Err, inl, length, List, None, Ok, Option, refl, Result, Some, subst, sym}
use Rattle.pb_pieces.proofs.Common.{true, Vec, drop-append_seam, drop-nil, Fault, Problem, first_state, State, place_after-offset, Limits, Place}
use Rattle.pb_pieces.proofs.Common.{Stop, ReadsBlank, largest, top_of, Checking, IsAt, EndsAfter, CountsAt, fault_of, place_in, CheckFault, AfterProof}
use Rattle.pb_pieces.proofs.Common.{IsAccepted, HasFault, IsInstanceOf, IsRejected, IsRunning, IsSession, Session}
use Rattle.pb_text.specs.{contract.Over.reported, contract.OverState.inner_of, contract.OverState.shown_of, meaning.Whole.events_at}
use Rattle.{std.specs.declared.alloc.Global.Global, pb_tool.proofs.lemmas.check.TwoSources.whole_file, pb_opb.specs.declared.Instance.Instance}
use Rattle.{pb_proof.specs.declared.Stage.Stage, pb_proof.specs.declared.Stage.TheVariants.Complete, pb_replay.specs.meaning.Statements.Accepts}
use Rattle.pb_replay.specs.{contract.ReplayModel.Replaying, contract.ReplayModel.verdict_at, declared.verdict.Verdict.Verdict}
use Rattle.pb_text.specs.declared.over.Over.{Over}
use Rattle.pb_tool.specs.contract.Runs.{IsNoReplay, IsReplayOf, Replays}
use Rattle.pb_tool.specs.declared.fault.{Input.Input, Input.TheVariants.Instance as of_instance, ToolFault.ToolFault}
use Rattle.pb_tool.specs.declared.fault.ToolFault.TheVariants.{Memory, Overflow, Text}
use Rattle.pb_tool.specs.meaning.{Decided.AreVerified, Files.IsInstanceFile, Headline.VerdictsAreTrue}
use Rattle.pb_pieces.specs.{Session.IsNoSession, declared.session.OpenFault.OpenFault}
use Rattle.pb_pieces.proofs.{Faults.accepting, Faults.refused_at_end, Fed.running, Fed.with_stands}
use Rattle.pb_pieces.specs.declared.session.OpenFault.TheVariants as opening
use Rattle.pb_text.specs.declared.place.Why.TheVariants as reason
use Rattle.pb_tool.specs.declared.commands.check.checker.CheckFault.TheVariants as check

-- a source over a slice has the bytes of the slice left
pub whole : (o : Over (Bor (List ℕ))) (s : Bor (List ℕ)) → inner_of o ≡ s → shown_of o ≡ None → reported (Some o.inner.now) None o.shown ≡ Some s.now
whole o s is none = ap (λ (x : Option ℕ). reported (Some o.inner.now) None x) none ∙ ap (λ (x : Bor (List ℕ)). Some x.now) is

-- a complete proof has the verdict of its conclusion
concluded_as : (next : Stage) (concluded : Option Verdict) (w : Verdict) → verdict_at next concluded ≡ Some w → concluded ≡ Some w
concluded_as Complete concluded w e = e
concluded_as _ concluded w e = absurd cc

same_state : {s t : State} → ◌≡◌ {A = Result State Fault} (Ok s) (Ok t) → s ≡ t
same_state e = cc

-- the fault of a session for one of the tool
abbrev pub fault_of_tool : ToolFault → OpenFault
fault_of_tool (Text i s) = opening.Text s
fault_of_tool (Memory i) = opening.Memory
fault_of_tool e = opening.Overflow

-- what a finish says of the text, with the number of its statements
abbrev pub EndsOf : Checking → Checking → Result Verdict CheckFault → Type 0
EndsOf old new result = (l : Limits) (longest : ℕ) (v : Problem) (first : Result State Fault) (input : List ℕ) (n : ℕ) → fault_of old ≡ None → CountsAt l longest v first input n old → EndsAfter l longest v first input n (place_in new) result

module _ (limits : Limits) (longest : ℕ) where
  -- ---- the end
  module _ (v : Problem) (fed : List ℕ) (n : ℕ) (place : Place) (w : Verdict) (ends : EndsAfter limits longest v (Ok (first_state v)) fed n place (Ok w)) where
    abbrev left : List ℕ
    left = ends.1.reads.left

    abbrev accepted : IsAccepted limits longest v (first_state v) (Some fed) (Some left) place true None ends.0
    accepted =
        accepting limits longest v fed ends.1.used left ends.1.spans place true None ends.0 ends.1.reads.input_is ends.1.reads
        (subst (λ (x : State). Accepts (largest limits) (top_of limits) v (first_state v) (events_at ends.1.spans) x) (sym (same_state ends.1.accepted.1)) ends.1.accepted.2)

    left_is : drop place.offset fed ≡ left
    left_is =
        let r = ends.1.reads in
        ap (λ (k : ℕ). drop k fed) (ap (λ (p : Place). p.offset) r.place_is ∙ place_after-offset ends.1.used) ∙ (ap (λ (x : List ℕ). drop (length ends.1.used) x) r.input_is ∙ drop-append_seam ends.1.used r.left)

    pub replays : (rest : List ℕ) (before after : Option (List ℕ)) → rest ≡ drop place.offset fed → before ≡ Some rest → ReadsBlank place before (Ok tt) after → Replays limits longest v (first_state v) (Some fed) (Ok w) (Some [])
    replays rest before after is one blank =
        let b = subst (λ (x : Option (List ℕ)). ReadsBlank place x (Ok tt) after) (one ∙ ap (λ (x : List ℕ). Some x) (is ∙ left_is)) blank in
        let f = whole_file limits longest v (first_state v) (Some fed) (Some left) after place ends.0 w accepted (concluded_as ends.0.next ends.0.concluded w ends.2) b in
        subst (λ (x : Option (List ℕ)). Replays limits longest v (first_state v) (Some fed) (Ok w) x) b.1.1 f

    -- a rest that is not blank
    pub stray : (rest : List ℕ) (before after : Option (List ℕ)) (s : Stop) → rest ≡ drop place.offset fed → before ≡ Some rest → ReadsBlank place before (Err s) after → IsRejected limits longest v fed n (check.Text s)
    stray rest before after s is one blank =
        let b = subst (λ (x : Option (List ℕ)). ReadsBlank place x (Err s) after) (one ∙ ap (λ (x : List ℕ). Some x) (is ∙ left_is)) blank in
        (fed, [], sym (append-nil fed), inl (after, AfterProof (Some left) place ends.0 w accepted (concluded_as ends.0.next ends.0.concluded w ends.2) b, ends.3))

  module _ (i fed : List ℕ) (old : Session) (new : Checking) (none : old.fault ≡ None) (s : IsSession limits longest i fed old) where
    now : IsRunning limits longest s.problem fed old
    now = running limits longest i fed old none s

    -- the session is the same, as its checker is
    pub still : new ≡ old.checker → IsSession limits longest i fed (record { checker = new; rest = old.rest; accepted = old.accepted; fault = old.fault })
    still e = subst (λ (c : Checking). IsSession limits longest i fed (record { checker = c; rest = old.rest; accepted = old.accepted; fault = old.fault })) (sym e) s

    abbrev Faulty : CheckFault → Session
    Faulty f = record { checker = new; rest = old.rest; accepted = old.accepted; fault = Some f }

    with_fault : (f : CheckFault) → IsRejected limits longest s.problem fed old.accepted f → IsSession limits longest i fed (Faulty f)
    with_fault f h = with_stands limits longest i fed fed old (Faulty f) s (Some f) refl h

    -- the proof is rejected at its end
    pub ended : (f : CheckFault) → (fault_of old.checker ≡ None → f ≡ check.Text (record { place = place_in old.checker; why = reason.Ended })) → EndsOf old.checker new (Err f) → IsSession limits longest i fed (Faulty f)
    ended f first ends =
        let is = first now.running in
        let stop : Stop = record { place = place_in old.checker; why = reason.Ended } in
        let (here, many) = subst (λ (y : CheckFault). EndsAfter limits longest s.problem (Ok (first_state s.problem)) fed old.accepted (place_in new) (Err y)) is (ends limits longest s.problem (Ok (first_state s.problem)) fed old.accepted now.running now.counts) in
        with_fault f (fed, [], sym (append-nil fed), inl (subst (λ (y : CheckFault). HasFault limits longest s.problem fed old.accepted y) (sym is) (refused_at_end limits longest s.problem fed old.accepted (place_in new) stop here many refl)))

    pub strays : (w : Verdict) → EndsOf old.checker new (Ok w)
        → place_in new ≡ place_in old.checker → (place : Place) → place ≡ place_in new → (before after : Option (List ℕ)) → before ≡ Some old.rest.items → (stop : Stop) → ReadsBlank place before (Err stop) after
        → IsSession limits longest i fed (Faulty (check.Text stop))
    strays w ends still place at before after one stop blank =
        with_fault (check.Text stop)
        (stray s.problem fed old.accepted (place_in new) w (ends limits longest s.problem (Ok (first_state s.problem)) fed old.accepted now.running now.counts) old.rest.items before after stop
        (now.rest_is ∙ ap (λ (p : Place). drop p.offset fed) (sym still)) one (subst (λ (p : Place). ReadsBlank p before (Err stop) after) at blank))

    module _ (w : Verdict)
        (ends : EndsOf old.checker new (Ok w))
        (still : place_in new ≡ place_in old.checker) (place : Place) (at : place ≡ place_in new) (before after : Option (List ℕ)) (one : before ≡ Some old.rest.items) (blank : ReadsBlank place before (Ok tt) after) where
      pub verified : AreVerified limits longest i fed w
      verified =
          let (q, file, t, accepted_all, claimed) = replays s.problem fed old.accepted (place_in new) w (ends limits longest s.problem (Ok (first_state s.problem)) fed old.accepted now.running now.counts) old.rest.items before after
          (now.rest_is ∙ ap (λ (p : Place). drop p.offset fed) (sym still)) one (subst (λ (p : Place). ReadsBlank p before (Ok tt) after) at blank) in
          record {
            instance = s.instance;
            first = s.file;
            proof = q;
            second = file;
            verified = record { problem = s.problem; opened = s.opened; last = t; accepted = accepted_all; claimed = claimed };
          }

      pub true_of : VerdictsAreTrue → IsInstanceOf limits longest i w
      true_of law = let a = verified in (a.instance, a.first, law limits longest a.instance a.proof w (Some fed) (Some []) a.second a.verified)

  -- ---- the beginning
  module _ (text : List ℕ) (before : Option (List ℕ)) (one : before ≡ Some text) (within : ℕ) (is : within ≡ longest) (after : Option (List ℕ)) where
    at_text : (P : ℕ → Option (List ℕ) → Type 0) → P within before → P longest (Some text)
    at_text P p = subst (P longest) one (subst (λ (n : ℕ). P n before) is p)

    whole_text : (v : Instance) → IsInstanceFile limits longest (Some text) after v → IsInstanceFile limits longest (Some text) (Some []) v
    whole_text v f = subst (λ (x : Option (List ℕ)). IsInstanceFile limits longest (Some text) x v) f.took.1 f

    by_fault : (e : ToolFault) → IsNoReplay limits longest (Some text) after e → IsNoSession limits longest text (fault_of_tool e)
    by_fault (Text of_instance s) stopped = (after, stopped)
    by_fault (Overflow of_instance) (v, file, opened) = (v, whole_text v file, opened)
    by_fault (Memory of_instance) (v, file, fits) = (v, whole_text v file, fits)
    by_fault e none = absurd none

    pub unopened : (e : ToolFault) → IsNoReplay limits within before after e → IsNoSession limits longest text (fault_of_tool e)
    unopened e none = by_fault e (at_text (λ (n : ℕ) (x : Option (List ℕ)). IsNoReplay limits n x after e) none)

    by_rest : (e : ToolFault) → ((i : Input) (s : Stop) → e ≡ Text i s → ⊥) → ((i : Input) → e ≡ Memory i → ⊥) → IsNoSession limits longest text (fault_of_tool e) → IsNoReplay limits longest (Some text) after e → IsNoSession limits longest text opening.Overflow
    by_rest (Text i s) no_text memory h r = absurd (no_text i s refl)
    by_rest (Memory i) no_text memory h r = absurd (memory i refl)
    by_rest (Overflow of_instance) no_text memory h r = h
    by_rest e no_text memory h r = absurd r

    pub overflown : (e : ToolFault) → ((i : Input) (s : Stop) → e ≡ Text i s → ⊥) → ((i : Input) → e ≡ Memory i → ⊥) → IsNoReplay limits within before after e → IsNoSession limits longest text opening.Overflow
    overflown e no_text memory none = by_rest e no_text memory (unopened e none) (at_text (λ (n : ℕ) (x : Option (List ℕ)). IsNoReplay limits n x after e) none)

    pub opened : (r : Replaying) (c : Checking) (rest : Vec ℕ Global) → IsReplayOf limits within before after r
        → ((first : Result State Fault) → IsAt r first → CountsAt r.limits longest r.problem first [] 0 c) → fault_of c ≡ None → rest.items ≡ []
        → IsSession limits longest text [] (record { checker = c; rest = rest; accepted = 0; fault = None })
    opened r c rest opens stands running none =
        let o = at_text (λ (n : ℕ) (x : Option (List ℕ)). IsReplayOf limits n x after r) opens in
        record {
          instance = o.instance;
          file = whole_text o.instance o.file;
          problem = r.problem;
          opened = o.opened;
          stands = record {
            counts = subst (λ (l : Limits). CountsAt l longest r.problem (Ok (first_state r.problem)) [] 0 c) o.limited (stands (Ok (first_state r.problem)) (o.running, o.first));
            running = running;
            few = omega arith;
            rest_is = none ∙ sym (drop-nil (place_in c).offset);
          };
        }
