-- What a check shows a watch: a call for each statement of the proof, in order.
use Rattle.{pb_opb.specs.declared.Instance.Instance, pb_tool.specs.contract.Checks.KeepsNames}
use Rattle.{pb_proof.specs.declared.Statement.Statement, pb_replay.specs.contract.ReplayModel.Replaying, pb_replay.specs.contract.ReplayModel.StandsFor}
use Rattle.pb_replay.specs.declared.{fault.Fault.Fault, fault.Fault.TheVariants.Memory as no_memory, fault.Fault.TheVariants.NotTotal, verdict.Verdict.Verdict}
use Rattle.pb_replay.specs.meaning.{Problem.Problem, Problem.Opened, Replay.State, Replay.first_state, Statements.Outcome}
use Rattle.pb_text.specs.declared.{Limits.Limits, Place.Place, Spanned.Spanned, Stop.Stop}
use Rattle.pb_text.specs.meaning.{Limits.largest, Limits.top_of, Pulling.OfGiven, PullsInARow.TookAll, PullsInARow.TookSoFar}
use Rattle.pb_tool.specs.{declared.commands.check.checker.CheckFault.CheckFault, meaning.Files.IsProofText, meaning.Files.IsInstanceFile}
use Rattle.std.specs.Prelude.{◌≡◌, ◌⊎◌, ℕ, List, [], ◌∷◌, ◌++◌, Bool, true, false, Option, Some, None, Result, Ok, Err}
use Rattle.pb_tool.specs.declared.fault.Input.TheVariants.{Instance as of_instance, Proof as of_proof}
use Rattle.pb_tool.specs.declared.fault.ToolFault.{ToolFault, TheVariants.Text, TheVariants.Overflow, TheVariants.Memory, TheVariants.Write, TheVariants.Step}
use Rattle.pb_tool.specs.declared.commands.check.checker.CheckFault.TheVariants as check

-- A call of a watch: a statement with its span, and the replay after it. A rejected one comes with its fault.
pub data Call : Type 0 where
  Accepted : Spanned Statement → Replaying → Call
  Rejected : Spanned Statement → Replaying → CheckFault → Call

-- the call for a statement, by the result of its step
abbrev pub call_for : Spanned Statement → Replaying → Result Unit CheckFault → Call
call_for m r (Ok u) = Accepted m r
call_for m r (Err f) = Rejected m r f

-- The watch got these calls, one after another, and went from old to new. The relation says what one call does to it.
abbrev pub GotEach : {V : Type 0} → (V → Call → V → Type 0) → V → List Call → V → Type 0
GotEach got old [] new = new ≡ old
GotEach {V} got old (call ∷ calls) new = (mid : V) × got old call mid × GotEach got mid calls new

-- There is one call for each of the spans, in order, with that span. The statements are accepted in turn, and lead from
-- one state to the other. In a call the replay stands for the state after its statement.
module _ (limits : Limits) (v : Problem) where
  abbrev pub ShowsEach : State → List (Spanned Statement) → List Call → State → Type 0
  ShowsEach s [] [] t = s ≡ t
  ShowsEach s (m ∷ spans) (Accepted n r ∷ calls) t =
      (n ≡ m) × (u : State) × Outcome (largest limits) (top_of limits) v s m.event (Ok u) × StandsFor r u × (r.fault ≡ None) × ShowsEach u spans calls t
  ShowsEach s [] (call ∷ calls) t = ⊥
  ShowsEach s (m ∷ spans) [] t = ⊥
  ShowsEach s (m ∷ spans) (Rejected n r f ∷ calls) t = ⊥

-- The relation `got` says what a call does to a watch.
module _ (limits : Limits) (longest : ℕ) {V : Type 0} (got : V → Call → V → Type 0) where
  module _ (v : Problem) (first : State) (before : Option (List ℕ)) (old : V) where
    -- The text of a proof was read this far in a source. The watch got a call for each statement in it, and no other
    -- call.
    pub record HasSeen (after : Option (List ℕ)) (place : Place) (done : Bool) (stop : Option Stop) (new : V) : Type 0 where
      pub spans : List (Spanned Statement)
      pub took : TookAll (IsProofText limits) longest before after spans place done stop
      pub calls : List Call
      pub last : State
      pub shows : ShowsEach limits v first spans calls last
      pub got_are : GotEach got old calls new

    -- The statement that begins at the position was rejected, and nothing after it was taken. The watch got a call for
    -- each statement before it, then one for the rejection, and no other call. The replay still has the names.
    pub record HasSeenUpTo (after : Option (List ℕ)) (begins : Place) (e : Fault) (new : V) : Type 0 where
      pub spans : List (Spanned Statement)
      pub rejected : Spanned Statement
      pub took : TookSoFar (IsProofText limits) longest before after (spans ++ rejected ∷ []) rejected.past
      pub begins_is : begins ≡ rejected.first
      pub calls : List Call
      pub last : State
      pub shows : ShowsEach limits v first spans calls last
      pub replay : Replaying
      pub names : KeepsNames last.names replay.names e
      pub got_are : GotEach got old (calls ++ Rejected rejected replay (check.Step begins e) ∷ []) new

    -- for the result of a run through the statements of the source
    abbrev pub ShowsRun : Result (Verdict × Place) CheckFault → Option (List ℕ) → V → Type 0
    ShowsRun (Ok r) after new = HasSeen after r.1 true None new
    ShowsRun (Err (check.Text s)) after new = HasSeen after s.place false (Some s) new
    ShowsRun (Err (check.Step begins e)) after new = HasSeenUpTo after begins e new

    -- the whole proof was read, with some rest after it, and shown
    abbrev pub HasSeenWhole : V → Type 0
    HasSeenWhole new = (after : Option (List ℕ)) × (place : Place) × HasSeen after place true None new

    -- For the result of a check of the source. What comes after the proof is not shown. If there is no memory for the
    -- name that a rejection gives, the result is that fault, and the watch got the rejection.
    abbrev pub ShowsProof : Result Verdict ToolFault → Option (List ℕ) → V → Type 0
    ShowsProof (Ok w) after new = HasSeenWhole new
    ShowsProof (Err Write) after new = HasSeenWhole new
    ShowsProof (Err (Text of_proof s)) after new = HasSeen after s.place false (Some s) new ⊎ HasSeenWhole new
    ShowsProof (Err (Step begins e name)) after new =
        (reported : Fault) × ((e ≡ reported) ⊎ ((e ≡ no_memory) × (n : ℕ) × (reported ≡ NotTotal n))) × HasSeenUpTo after begins reported new
    ShowsProof (Err _) after new = ⊥

  -- For the result of a check of two sources. If the instance is rejected, the watch got no call.
  abbrev pub IsWatched : Option (List ℕ) → Option (List ℕ) → V → Result Verdict ToolFault → Option (List ℕ) → Option (List ℕ) → V → Type 0
  IsWatched i p old (Err (Text of_instance s)) i' p' new = new ≡ old
  IsWatched i p old (Err (Overflow of_instance)) i' p' new = new ≡ old
  IsWatched i p old (Err (Memory of_instance)) i' p' new = new ≡ old
  IsWatched i p old result i' p' new =
      (v : Instance) × IsInstanceFile limits longest i i' v × (problem : Problem) × Opened (largest limits) v (Ok problem)
      × ShowsProof problem (first_state problem) p old result p' new

  -- the same for the bytes that the calls of the sources gave
  abbrev pub IsWatchedGiven : List ℕ → List ℕ → V → Result Verdict ToolFault → List ℕ → List ℕ → V → Type 0
  IsWatchedGiven i p old result i' p' new =
      OfGiven (λ one one'. OfGiven (λ other other'. IsWatched one other old result one' other' new) p p') i i'
