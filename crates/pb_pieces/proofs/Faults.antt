-- What a checker has accepted, and the first fault that a check finds in the same text.
use Rattle.pb_pieces.proofs.Common.{ℕ, ◌++◌, ◌∙◌, ◌∷◌, ◌≡◌, [], ap, Bool, false, get_or, inl, inr, length, List, None, Ok, Option, refl, Result, Some, subst}
use Rattle.pb_pieces.proofs.Common.{sym, append_cancel_left, Statement, Fault, Problem, first_state, State, place_after-offset, Limits, Place, Stop, Answers}
use Rattle.pb_pieces.proofs.Common.{Reads, place_after, reported, many, running_at, Checking, CountsSoFar, TextsAreRead, Checks, IsRefusedAt, Rejects}
use Rattle.pb_pieces.proofs.Common.{AllocatesAt, CountsAt, fault_of, is_whole, place_in, CheckFault, AsksInProofText, largest, Spanned, top_of, IsProofText}
use Rattle.pb_pieces.proofs.Common.{ComesTo, InProof, IsAccepted, IsReported, HasFault}
use Rattle.pb_text.{proofs.lemmas.source.Wholes.same_prefix, specs.declared.place.Why.Why, specs.meaning.Stopping.IsAsking, specs.meaning.Whole.events_at}
use Rattle.pb_replay.specs.meaning.Statements.{Accepts}
use Rattle.pb_text.specs.declared.place.Why.TheVariants as reason
use Rattle.pb_replay.specs.declared.fault.Fault.TheVariants as fault
use Rattle.pb_tool.specs.declared.commands.check.checker.CheckFault.TheVariants as check

-- ---- memory runs out at a byte that may allocate
asking : (limits : Limits) (used left : List ℕ) (w : Why) → (w ≡ reason.Memory → (b : ℕ) × (more : List ℕ) × (left ≡ b ∷ more) × AsksInProofText limits used b) → IsAsking (AsksInProofText limits) used left w
asking limits used left reason.Memory h = h refl
asking limits used left _ h = tt

asked : (limits : Limits) (input used left : List ℕ) (s : Stop) → input ≡ used ++ left → s.place ≡ place_after used → AllocatesAt limits input (check.Text s) → s.why ≡ reason.Memory → (b : ℕ) × (more : List ℕ) × (left ≡ b ∷ more) × AsksInProofText limits used b
asked limits input used left s is at asks memory =
    let (used', b, more, is', at', may) = asks memory in
    let same : used' ≡ used = same_prefix used' used (b ∷ more) left (sym is' ∙ is) (sym (place_after-offset used') ∙ (ap (λ (p : Place). p.offset) (sym at' ∙ at) ∙ place_after-offset used)) in
    (b, more, append_cancel_left used left (b ∷ more) (sym is ∙ (is' ∙ ap (λ (x : List ℕ). x ++ b ∷ more) same)), subst (λ (x : List ℕ). AsksInProofText limits x b) same may)

-- a name for the report of a fault
reported_name : (names : List (List ℕ)) (e : Fault) → (name : List ℕ) × IsReported names e name
reported_name names (fault.NotTotal n) = (get_or names n [], refl)
reported_name names _ = ([], refl)

module _ (limits : Limits) (longest : ℕ) (v : Problem) where
  abbrev First : Result State Fault
  First = Ok (first_state v)

  -- a prefix of the text that was read, and whose statements are accepted
  abbrev pub accepting : (input used left : List ℕ) (spans : List (Spanned Statement)) (place : Place) (done : Bool) (stop : Option Stop) (last : State)
      → input ≡ used ++ left → Reads (IsProofText limits) longest input used spans place done stop
      → Accepts (largest limits) (top_of limits) v (first_state v) (events_at spans) last
      → IsAccepted limits longest v (first_state v) (Some input) (Some left) place done stop last
  accepting input used left spans place done stop last is reads accepts =
      let read = subst (λ (x : List ℕ). Reads (IsProofText limits) longest x used spans place done stop) is reads in
      record { spans = spans; took = record { used = used; seen = left; took = (is, refl); reads = read }; accepted = accepts }

  -- ---- what a checker without a fault has accepted
  abbrev pub AcceptedBy : List ℕ → List ℕ → Place → Bool → State → ℕ → Type 0
  AcceptedBy fed left place done last n = (all : IsAccepted limits longest v (first_state v) (Some fed) (Some left) place done None last) × (length all.spans ≡ n)

  pub so_far : TextsAreRead → (fed : List ℕ) (n : ℕ) (c : Checking) → fault_of c ≡ None → CountsAt limits longest v First fed n c → (left : List ℕ) × (last : State)
      × (all : AcceptedBy fed left (place_in c) (is_whole c) last n) × (fed ≡ all.0.took.used ++ left) × (place_in c ≡ place_after all.0.took.used)
      × Answers (IsProofText limits) longest all.0.took.used left all.0.spans (place_in c) (is_whole c) None
  so_far read fed n c none counts =
      let at = running_at limits longest v First fed c.feeder c.replay c.fault none counts.0 in
      let (used, reads) = reported read limits longest v First fed c.feeder c.replay c.fault none counts.0 in
      let (t, is, accepted) = at.accepted in
      let all = accepting fed used reads.left at.spans (place_in c) (is_whole c) None t reads.input_is reads accepted in
      let counted = many read limits longest v First fed c.feeder c.replay c.fault none counts.0 n counts.1 in
      (reads.left, t, (all, counted), reads.input_is, reads.place_is, reads.answer)

  -- ---- the first fault
  text_fault : (input : List ℕ) (n : ℕ) (place : Place) (s : Stop) (here : Checks limits longest v First input place false (Some (check.Text s))) → length here.1.spans ≡ n → AllocatesAt limits input (check.Text s) → HasFault limits longest v input n (check.Text s)
  text_fault input n place s (now, h) many asks =
      let (t, is, accepted) = h.accepted in
      let r = h.reads in
      let at : s.place ≡ place = r.answer.1 in
      let reads = subst (λ (p : Place). Reads (IsProofText limits) longest input h.used h.spans p false (Some s)) (sym at) r in
      let all = accepting input h.used r.left h.spans s.place false (Some s) t r.input_is reads accepted in
      (Some r.left, InProof t all (asking limits h.used r.left s.why (asked limits input h.used r.left s r.input_is (at ∙ r.place_is) asks)), many)

  step_by : (input left : List ℕ) (n : ℕ) (begins : Place) (e : Fault) (st : Statement) (state : State) (comes : ComesTo limits longest v (first_state v) (Some input) (Some left) begins st state) → length comes.spans ≡ n → Rejects limits v (Ok state) st e → HasFault limits longest v input n (check.Step begins e)
  step_by input left n begins e st state comes many (inl h) = (Some left, [], (st, state, comes, inl h), many)
  step_by input left n begins e st state comes many (inr out) = let (name, named) = reported_name state.names e in (Some left, name, (st, state, comes, inr (out, named)), many)

  step_fault : (input : List ℕ) (n : ℕ) (place begins : Place) (e : Fault) (h : IsRefusedAt limits longest v First input place begins e) → length h.spans ≡ n → HasFault limits longest v input n (check.Step begins e)
  step_fault input n place begins e h many =
      let (t, is, accepted) = h.accepted in
      step_by input h.left n begins e h.last.event t (record {
        spans = h.spans;
        last = h.last;
        took = record {
          used = h.used;
          seen = h.left;
          took = (h.input_is, refl);
          done = h.done;
          reads = subst (λ (p : Place). Reads (IsProofText limits) longest h.used h.used (h.spans ++ h.last ∷ []) p h.done None) (sym h.past_is) h.reads;
        };
        begins_is = h.begins_is;
        statement = refl;
        accepted = accepted;
      }) many (subst (λ (x : Result State Fault). Rejects limits v x h.last.event e) is h.refused)

  -- a fault of the checker is the first one of the text
  pub refused_here : (input : List ℕ) (n : ℕ) (c : Checking) (f : CheckFault) → fault_of c ≡ Some f → CountsAt limits longest v First input n c → AllocatesAt limits input f → HasFault limits longest v input n f
  refused_here input n c f is counts asks = by f (subst (λ (x : Option CheckFault). CountsSoFar limits longest v First input n c.feeder c.replay x) is counts) asks
    where
      by : (f : CheckFault) → CountsSoFar limits longest v First input n c.feeder c.replay (Some f) → AllocatesAt limits input f → HasFault limits longest v input n f
      by (check.Text s) (here, many) asks = text_fault input n (place_in c) s here many asks
      by (check.Step begins e) ((here, kept), many) asks = step_fault input n (place_in c) begins e here many

  -- a fault at the end of the text
  pub refused_at_end : (input : List ℕ) (n : ℕ) (place : Place) (s : Stop) (here : Checks limits longest v First input place false (Some (check.Text s))) → length here.1.spans ≡ n → s.why ≡ reason.Ended → HasFault limits longest v input n (check.Text s)
  refused_at_end input n place s here many ended = text_fault input n place s here many (λ memory. absurd (let wrong : reason.Ended ≡ reason.Memory = sym ended ∙ memory in cc wrong))
