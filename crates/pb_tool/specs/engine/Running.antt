-- A checker that runs through the proof of a source: what held when it began, what holds after each statement, and what
-- the run comes to.
use Rattle.{pb_proof.specs.declared.Statement.Statement, pb_proof.specs.engine.machine.State.begin, pb_replay.specs.declared.verdict.Verdict.Verdict}
use Rattle.pb_replay.specs.{contract.ReplayModel.Replaying, contract.ReplayModel.StandsFor, meaning.Replay.State, meaning.Statements.Accepts}
use Rattle.pb_text.specs.contract.Feeding.{StandsAt, place_of, halt_of}
use Rattle.pb_text.specs.declared.{Feeder.Feeder, Machine.Ghosts, Place.Place, Spanned.Spanned}
use Rattle.pb_text.specs.meaning.{Limits.largest, Limits.top_of, Pulling.OfGiven, PullsInARow.HasPulled, Whole.events_at}
use Rattle.pb_tool.specs.{contract.Checker.Checking, declared.commands.check.checker.CheckFault.CheckFault, declared.fault.ToolFault.ToolFault}
use Rattle.pb_tool.specs.contract.{Runs.Replays, Runs.RunsProof, Watched.Call, Watched.GotEach, Watched.ShowsEach, Watched.ShowsProof, Watched.ShowsRun}
use Rattle.std.specs.Prelude.{◌≡◌, ℕ, List, [], ◌++◌, length, Option, Some, None, Result, Ok, Err}

-- The feeder began with this machine and has not stopped. It was fed what the calls have given since a history.
abbrev pub HasGiven : {M E : Type 0} {g : Ghosts M E} → ℕ → M → List ℕ → List (Spanned E) → Feeder M E g → List ℕ → Type 0
HasGiven longest start before spans f now = (given : List ℕ) × (now ≡ before ++ given) × ((place_of f).offset ≡ length given) × StandsAt longest start given spans f × (halt_of f ≡ None)

-- The watch got a call for each statement so far.
abbrev pub HasShown : {V : Type 0} → (V → Call → V → Type 0) → V → Replaying → List (Spanned Statement) → V → Replaying → Type 0
HasShown got old began spans new r =
    (calls : List Call) × GotEach got old calls new
    × ((first : State) → StandsFor began first → (t : State) × StandsFor r t × ShowsEach began.limits began.problem first spans calls t)

-- The checker was fed nothing yet, and has this replay.
pub record Begins (longest : ℕ) (began : Replaying) (c : Checking) : Type 0 where
  pub stands : StandsAt longest (begin (largest began.limits) (top_of began.limits)) [] [] c.feeder
  pub running : halt_of c.feeder ≡ None
  pub start : (place_of c.feeder).offset ≡ 0
  pub replay : c.replay ≡ began

-- for the bytes that are known of a source, and for those that its calls have given
abbrev pub OfBoth : (Option (List ℕ) → Option (List ℕ) → Type 0) → Option (List ℕ) → List ℕ → Option (List ℕ) → List ℕ → Type 0
OfBoth Owed before since rest now = Owed before rest × OfGiven Owed since now

-- A run began with this replay, in this state, and with this watch.
module _ (longest : ℕ) (began : Replaying) {V : Type 0} (got : V → Call → V → Type 0) (old : V) (first : State) where
  -- what the run through a source comes to, and what it shows
  pub record IsRun (result : Result (Verdict × Place) CheckFault) (r : Replaying) (new : V) (before after : Option (List ℕ)) : Type 0 where
    pub runs : RunsProof began.limits longest began.problem first before result after r
    pub shown : ShowsRun began.limits longest got began.problem first before old result after new

  -- the same for the check of the proof, with the rest after it
  pub record IsChecked (result : Result Verdict ToolFault) (new : V) (before after : Option (List ℕ)) : Type 0 where
    pub replayed : Replays began.limits longest began.problem first before result after
    pub shown : ShowsProof began.limits longest got began.problem first before old result after new

-- A run began with this replay, this source and this watch. Of the source, the bytes are known that were left in it, or
-- those that its calls had given.
module _ (longest : ℕ) (began : Replaying) {V : Type 0} (got : V → Call → V → Type 0) (before : Option (List ℕ)) (since : List ℕ) (old : V) where
  -- Every statement so far was accepted and shown.
  pub record HasRun (c : Checking) (rest : Option (List ℕ)) (now : List ℕ) (new : V) : Type 0 where
    pub spans : List (Spanned Statement)
    pub unspent : c.replay.fault ≡ None
    pub limited : c.replay.limits ≡ began.limits
    pub problem : c.replay.problem ≡ began.problem
    pub pulled : HasPulled longest (begin (largest began.limits) (top_of began.limits)) before spans c.feeder rest
    pub led : (first : State) → StandsFor began first → (t : State) × StandsFor c.replay t × Accepts (largest began.limits) (top_of began.limits) began.problem first (events_at spans) t
    pub given : HasGiven longest (begin (largest began.limits) (top_of began.limits)) since spans c.feeder now
    pub shown : HasShown got old began spans new c.replay

  -- what the run comes to, for each state that the replay may have begun with
  abbrev pub RunsTo : Result (Verdict × Place) CheckFault → Replaying → Option (List ℕ) → List ℕ → V → Type 0
  RunsTo result r rest now new = (first : State) → StandsFor began first → OfBoth (IsRun longest began got old first result r new) before since rest now

  -- after one statement more, or at the end
  abbrev pub RunsOn : Result (Option Verdict) CheckFault → Checking → Option (List ℕ) → List ℕ → V → Type 0
  RunsOn (Ok None) c rest now new = HasRun c rest now new
  RunsOn (Ok (Some w)) c rest now new = RunsTo (Ok (w, place_of c.feeder)) c.replay rest now new
  RunsOn (Err f) c rest now new = RunsTo (Err f) c.replay rest now new

  -- what the check of the proof comes to
  abbrev pub ChecksTo : Result Verdict ToolFault → Option (List ℕ) → List ℕ → V → Type 0
  ChecksTo result rest now new = (first : State) → StandsFor began first → OfBoth (IsChecked longest began got old first result new) before since rest now
