-- What a check says of the text of a proof: how far its statements were accepted, and why not further.
use Rattle.pb_proof.specs.{declared.Statement.Statement, meaning.Proofs.IsProof}
use Rattle.pb_replay.specs.{contract.ReplayModel.verdict_at, declared.fault.Fault.Fault, declared.verdict.Verdict.Verdict}
use Rattle.pb_replay.specs.meaning.{Meaning.IsNamePrefix, Problem.Problem, Replay.State, Statements.Outcome, Statements.Accepts, Statements.MayWantAt}
use Rattle.pb_text.specs.declared.{Limits.Limits, Place.Place, Spanned.Spanned, Stop.Stop}
use Rattle.pb_text.specs.meaning.{Limits.largest, Limits.top_of, Reading.Reads, Whole.events_at}
use Rattle.std.specs.Prelude.{◌≡◌, ◌⊎◌, ◌<◌, ℕ, List, [], ◌∷◌, ◌++◌, length, Bool, true, false, Option, Some, None, Result, Ok, Err}
use Rattle.pb_tool.specs.declared.commands.check.checker.CheckFault.{CheckFault, TheVariants.Text, TheVariants.Step}
use Rattle.pb_replay.specs.declared.fault.Fault.TheVariants as fault

-- The old names are a prefix of the new ones. A name that the fault gives by its number is among the old ones.
abbrev pub KeepsNames : List (List ℕ) → List (List ℕ) → Fault → Type 0
KeepsNames old new e = IsNamePrefix old new × ((n : ℕ) → e ≡ fault.NotTotal n → n < length old)

-- the same for the names of a state; nothing for a replay that was spent before
abbrev pub KeepsNamesOf : Result State Fault → List (List ℕ) → Fault → Type 0
KeepsNamesOf (Ok s) new e = KeepsNames s.names new e
KeepsNamesOf (Err spent) new e = Unit {0}

-- A replay over the problem is in a state, or a fault has spent it.
module _ (limits : Limits) (v : Problem) where
  -- One that is in a state comes to another by one accepted statement. A spent one accepts none.
  abbrev pub StepsTo : Result State Fault → Statement → State → Type 0
  StepsTo (Ok s) st t = Outcome (largest limits) (top_of limits) v s st (Ok t)
  StepsTo (Err spent) st t = ⊥

  -- the same by accepted statements, one after another
  abbrev pub LeadsTo : Result State Fault → List Statement → Result State Fault → Type 0
  LeadsTo (Ok s) sts now = (t : State) × (now ≡ Ok t) × Accepts (largest limits) (top_of limits) v s sts t
  LeadsTo (Err spent) sts now = (sts ≡ []) × (now ≡ Err spent)

  -- The replay rejects the statement: by its rules, or because memory ran out where it may allocate. A spent one
  -- rejects each statement with its fault.
  abbrev pub Rejects : Result State Fault → Statement → Fault → Type 0
  Rejects (Ok s) st e =
      ((e ≡ fault.Memory) × MayWantAt (largest limits) (top_of limits) v s.next st)
      ⊎ Outcome (largest limits) (top_of limits) v s st (Err e)
  Rejects (Err spent) st e = e ≡ spent

-- A replay over the problem began at first. What is said of the bytes that were fed holds for all of them joined.
module _ (limits : Limits) (longest : ℕ) (v : Problem) (first : Result State Fault) where
  -- The text was read so far, and every statement in it was accepted.
  pub record IsReplayed (input : List ℕ) (place : Place) (done : Bool) (stop : Option Stop) (now : Result State Fault) : Type 0 where
    pub used : List ℕ
    pub spans : List (Spanned Statement)
    pub reads : Reads (IsProof (largest limits) (top_of limits)) longest input used spans place done stop
    pub accepted : LeadsTo limits v first (events_at spans) now

  -- Every statement but the last was accepted. The last one, which began at `begins`, was rejected. Nothing after it
  -- was read.
  pub record IsRefusedAt (input : List ℕ) (place begins : Place) (e : Fault) : Type 0 where
    pub used : List ℕ
    pub left : List ℕ
    pub spans : List (Spanned Statement)
    pub last : Spanned Statement
    pub before : Result State Fault
    pub done : Bool
    pub input_is : input ≡ used ++ left
    pub reads : Reads (IsProof (largest limits) (top_of limits)) longest used used (spans ++ last ∷ []) place done None
    pub begins_is : begins ≡ last.first
    pub past_is : last.past ≡ place
    pub accepted : LeadsTo limits v first (events_at spans) before
    pub refused : Rejects limits v before last.event e

  -- how far it came, or which fault comes first
  abbrev pub Checks : List ℕ → Place → Bool → Option CheckFault → Type 0
  Checks input place done None = (now : Result State Fault) × IsReplayed input place done None now
  Checks input place done (Some (Text stop)) = (now : Result State Fault) × IsReplayed input place false (Some stop) now
  Checks input place done (Some (Step begins e)) = IsRefusedAt input place begins e

  -- at the end of the input: the verdict of a whole proof, or the fault, which is `Ended` if the text is cut
  abbrev pub Ends : List ℕ → Place → Result Verdict CheckFault → Type 0
  Ends input place (Ok w) = (t : State) × IsReplayed input place true None (Ok t) × (verdict_at t.next t.concluded ≡ Some w)
  Ends input place (Err f) = Checks input place false (Some f)

  -- how many statements were accepted: all that were read, or those before the fault
  abbrev pub accepted_in : (input : List ℕ) (place : Place) (done : Bool) (e : Option CheckFault) → Checks input place done e → ℕ
  accepted_in input place done None here = length here.1.spans
  accepted_in input place done (Some (Text stop)) here = length here.1.spans
  accepted_in input place done (Some (Step begins e)) here = length here.spans

  -- The same as `Ends`, and n statements were accepted.
  abbrev pub EndsAfter : List ℕ → ℕ → Place → Result Verdict CheckFault → Type 0
  EndsAfter input n place (Ok w) = (t : State) × (all : IsReplayed input place true None (Ok t)) × (verdict_at t.next t.concluded ≡ Some w) × (length all.spans ≡ n)
  EndsAfter input n place (Err f) = (here : Checks input place false (Some f)) × (accepted_in input place false (Some f) here ≡ n)
