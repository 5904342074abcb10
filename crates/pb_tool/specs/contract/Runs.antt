-- What the parts of a check ensure: the replay of an instance, and its run through a proof.
use Rattle.{pb_opb.specs.declared.Instance.Instance, pb_tool.specs.declared.fault.Input.TheVariants.Instance as of_instance}
use Rattle.pb_proof.specs.{declared.Proof.Proof, declared.Statement.Statement, meaning.Proofs.statements_of}
use Rattle.pb_replay.specs.{contract.ReplayModel.Replaying, contract.ReplayModel.StandsFor, meaning.Replay.State, meaning.Replay.first_state}
use Rattle.pb_replay.specs.declared.fault.Fault.{Fault, TheVariants.Memory as no_memory, TheVariants.Overflow as over, TheVariants.NotTotal}
use Rattle.{pb_replay.specs.declared.verdict.Verdict.Verdict, pb_text.specs.declared.Limits.Limits, pb_text.specs.declared.Place.Place}
use Rattle.pb_replay.specs.meaning.{Problem.FitsAll, Problem.Problem, Problem.Opened, Statements.Outcome, Statements.Accepts, Statements.MayWantAt}
use Rattle.pb_text.specs.meaning.{Limits.largest, Limits.top_of, Pulling.faults_with, Stopping.IsAsking}
use Rattle.pb_tool.specs.{contract.Checks.KeepsNames, declared.commands.check.checker.CheckFault.CheckFault, declared.fault.Input.TheVariants.Proof as of_proof}
use Rattle.pb_tool.specs.meaning.Files.{AsksInProofText, IsProofFile, IsInstanceFile, IsNoInstanceFile}
use Rattle.pb_tool.specs.meaning.Verified.{ComesTo, IsAccepted, IsRefusedStep, IsRefusedText, IsReported}
use Rattle.std.specs.Prelude.{◌≡◌, ◌⊎◌, ℕ, List, string_bytes, true, false, Option, Some, None, Result, Ok, Err}
use Rattle.pb_tool.specs.declared.fault.ToolFault.{ToolFault, TheVariants.Text, TheVariants.Overflow, TheVariants.Memory, TheVariants.Step}
use Rattle.pb_tool.specs.declared.commands.check.checker.CheckFault.TheVariants as check

-- how often a source has failed after a check with this result: once more for a read fault of that source
abbrev pub faults_of_instance : {A : Type 0} → Result A ToolFault → ℕ → ℕ
faults_of_instance (Err (Text of_instance s)) n = faults_with s.why n
faults_of_instance _ n = n

abbrev pub faults_of_proof : {A : Type 0} → Result A ToolFault → ℕ → ℕ
faults_of_proof (Err (Text of_proof s)) n = faults_with s.why n
faults_of_proof _ n = n

abbrev pub faults_of_text : {A : Type 0} → Result A CheckFault → ℕ → ℕ
faults_of_text (Err (check.Text s)) n = faults_with s.why n
faults_of_text _ n = n

-- the fault of the tool: with that name, or out of memory for a copy of that name
abbrev pub IsReportedAs : List (List ℕ) → Place → Fault → ToolFault → Type 0
IsReportedAs names place e (Step at f name) = (at ≡ place) × (((f ≡ no_memory) × ((n : ℕ) × (e ≡ NotTotal n))) ⊎ ((f ≡ e) × IsReported names e (string_bytes name)))
IsReportedAs names place e _ = ⊥

module _ (limits : Limits) (longest : ℕ) where
  -- The replay is that of the instance that the source had.
  pub record IsReplayOf (before after : Option (List ℕ)) (r : Replaying) : Type 0 where
    pub instance : Instance
    pub file : IsInstanceFile limits longest before after instance
    pub opened : Opened (largest limits) instance (Ok r.problem)
    pub limited : r.limits ≡ limits
    pub first : StandsFor r (first_state r.problem)
    pub running : r.fault ≡ None

  -- why there is none
  abbrev pub IsNoReplay : Option (List ℕ) → Option (List ℕ) → ToolFault → Type 0
  IsNoReplay before after (Text of_instance s) = IsNoInstanceFile limits longest before after s
  IsNoReplay before after (Overflow of_instance) = (v : Instance) × IsInstanceFile limits longest before after v × Opened (largest limits) v (Err over)
  IsNoReplay before after (Memory of_instance) = (v : Instance) × IsInstanceFile limits longest before after v × FitsAll (largest limits) v
  IsNoReplay before after _ = ⊥

  -- the result of opening the instance of a source
  abbrev pub OpensAs : Option (List ℕ) → Option (List ℕ) → Result Replaying ToolFault → Type 0
  OpensAs before after (Ok r) = IsReplayOf before after r
  OpensAs before after (Err f) = IsNoReplay before after f

  module _ (v : Problem) (first : State) (before : Option (List ℕ)) where
    -- the statements of a source that were stepped through
    abbrev pub RunsProof : Result (Verdict × Place) CheckFault → Option (List ℕ) → Replaying → Type 0
    RunsProof (Ok r) after new = (t : State) × IsAccepted limits longest v first before after r.1 true None t × (t.concluded ≡ Some r.0)
    RunsProof (Err (check.Text s)) after new =
        (t : State) × (a : IsAccepted limits longest v first before after s.place false (Some s) t) × IsAsking (AsksInProofText limits) a.took.used a.took.seen s.why
    RunsProof (Err (check.Step begins e)) after new =
        (st : Statement) × (state : State) × ComesTo limits longest v first before after begins st state
        × (((e ≡ no_memory) × MayWantAt (largest limits) (top_of limits) v state.next st)
        ⊎ (Outcome (largest limits) (top_of limits) v state st (Err e) × KeepsNames state.names new.names e))

    -- the same, with the rest after the proof
    abbrev pub Replays : Result Verdict ToolFault → Option (List ℕ) → Type 0
    Replays (Ok w) after =
        (q : Proof) × IsProofFile limits longest before after q
        × (t : State) × Accepts (largest limits) (top_of limits) v first (statements_of q) t × (t.concluded ≡ Some w)
    Replays (Err (Step place e name)) after = IsRefusedStep limits longest v first before after place e (string_bytes name)
    Replays (Err (Text of_proof s)) after = IsRefusedText limits longest v first before after s
    Replays (Err _) after = ⊥
