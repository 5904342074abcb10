-- How a checker relates to the text that it was fed.
use Rattle.pb_proof.specs.{declared.Statement.Statement, engine.machine.State.ProofState, engine.machine.State.begin, engine.machine.State.proofs}
use Rattle.{pb_proof.specs.meaning.Proofs.IsProof, pb_replay.specs.declared.fault.Fault.Fault, pb_tool.specs.meaning.Files.AsksInProofText}
use Rattle.pb_replay.specs.{contract.ReplayModel.Replaying, contract.ReplayModel.StandsFor, meaning.Problem.Problem, meaning.Replay.State}
use Rattle.pb_text.specs.contract.{Automaton.MayAsk, Feeding.StandsAt, Feeding.place_of, Feeding.halt_of, Feeding.is_complete}
use Rattle.pb_text.specs.declared.{Feeder.Feeder, Limits.Limits, Spanned.Spanned}
use Rattle.pb_text.specs.meaning.{Limits.largest, Limits.top_of, Reading.Reads, Whole.events_at}
use Rattle.pb_tool.specs.contract.Checks.{Checks, IsRefusedAt, KeepsNamesOf, LeadsTo, StepsTo, Rejects}
use Rattle.pb_tool.specs.declared.commands.check.checker.CheckFault.{CheckFault, TheVariants.Text, TheVariants.Step}
use Rattle.std.specs.Prelude.{◌≡◌, ℕ, List, length, false, Option, Some, None, Result, Ok, Err}

-- a feeder of the machine of proofs
abbrev pub ProofFeeder : Type 0
ProofFeeder = Feeder ProofState Statement (record { automaton = proofs })

-- what callers see of a checker
pub record Checking : Type 0 where
  pub feeder : ProofFeeder
  pub replay : Replaying
  pub fault : Option CheckFault

-- The replay is in the state, or the fault has spent it.
abbrev pub IsAt : Replaying → Result State Fault → Type 0
IsAt r (Ok s) = (r.fault ≡ None) × StandsFor r s
IsAt r (Err spent) = r.fault ≡ Some spent

-- the result of a step through a statement that was read, from the state of the replay before it
abbrev pub StepsFrom : Limits → Problem → Result State Fault → Spanned Statement → Result Unit CheckFault → Replaying → Type 0
StepsFrom limits v now m (Ok u) new = (t : State) × IsAt new (Ok t) × StepsTo limits v now m.event t
StepsFrom limits v now m (Err f) new = (e : Fault) × (f ≡ Step m.first e) × Rejects limits v now m.event e

module _ (limits : Limits) (longest : ℕ) (v : Problem) (first : Result State Fault) (input : List ℕ) where
  -- Every statement so far was accepted, and the text may continue.
  pub record IsAccepting (f : ProofFeeder) (r : Replaying) : Type 0 where
    pub spans : List (Spanned Statement)
    pub stands : StandsAt longest (begin (largest limits) (top_of limits)) input spans f
    pub running : halt_of f ≡ None
    pub limits_are : r.limits ≡ limits
    pub problem : r.problem ≡ v
    pub now : Result State Fault
    pub at : IsAt r now
    pub accepted : LeadsTo limits v first (events_at spans) now

  -- The feeder and the replay of a checker were fed the input. If a statement was rejected, the names from before it
  -- are still there.
  abbrev pub ChecksSoFar : ProofFeeder → Replaying → Option CheckFault → Type 0
  ChecksSoFar f r None = IsAccepting f r
  ChecksSoFar f r (Some (Text s)) = Checks limits longest v first input (place_of f) false (Some (Text s))
  ChecksSoFar f r (Some (Step begins e)) =
      (refused : IsRefusedAt limits longest v first input (place_of f) begins e) × KeepsNamesOf refused.before r.names e

  -- how many statements were accepted: all that end in the input, or those before the fault
  abbrev pub accepted_by : (f : ProofFeeder) (r : Replaying) (e : Option CheckFault) → ChecksSoFar f r e → ℕ
  accepted_by f r None h = length h.spans
  accepted_by f r (Some (Text s)) h = length h.1.spans
  accepted_by f r (Some (Step begins e)) h = length h.0.spans

  -- The same as `ChecksSoFar`, and n statements were accepted.
  abbrev pub CountsSoFar : ℕ → ProofFeeder → Replaying → Option CheckFault → Type 0
  CountsSoFar n f r e = (so_far : ChecksSoFar f r e) × (accepted_by f r e so_far ≡ n)

-- The machine of proofs may allocate only at a byte that may allocate in the text of a proof.
abbrev pub AsksAsText : Limits → Type 0
AsksAsText limits = (used : List ℕ) (b : ℕ) → MayAsk proofs (begin (largest limits) (top_of limits)) used b → AsksInProofText limits used b

-- This holds for every checker: it was fed some text.
abbrev pub IsSomewhere : ProofFeeder → Replaying → Option CheckFault → Type 0
IsSomewhere f r e =
    (limits : Limits) × (longest : ℕ) × (v : Problem) × (first : Result State Fault) × (input : List ℕ)
    × AsksAsText limits × ChecksSoFar limits longest v first input f r e

-- If `StandsAt` holds of a feeder of proofs and an input, the feeder has read that input.
abbrev pub TextsAreRead : Type 0
TextsAreRead = (limit top longest : ℕ) (input : List ℕ) (spans : List (Spanned Statement)) (f : ProofFeeder) →
    StandsAt longest (begin limit top) input spans f →
    (used : List ℕ) × Reads (IsProof limit top) longest input used spans (place_of f) (is_complete f) (halt_of f)
