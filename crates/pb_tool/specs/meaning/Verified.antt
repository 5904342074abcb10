-- What `pb check` returns for an instance and a proof, and what it writes.
use Rattle.pb_opb.specs.declared.Instance.{Instance}
use Rattle.pb_proof.specs.{declared.Proof.Proof, declared.Statement.Statement, meaning.Canonical.bound_bytes, meaning.Proofs.statements_of}
use Rattle.pb_replay.specs.declared.fault.Fault.{Fault, TheVariants.Memory as no_memory, TheVariants.Overflow as over, TheVariants.NotTotal}
use Rattle.pb_replay.specs.{declared.verdict.Verdict.Verdict, meaning.Replay.State, meaning.Replay.first_state}
use Rattle.pb_replay.specs.meaning.{Problem.FitsAll, Problem.Problem, Problem.Opened, Statements.Outcome, Statements.Accepts, Statements.MayWantAt}
use Rattle.pb_text.specs.declared.{Limits.Limits, Place.Place, Spanned.Spanned, Stop.Stop}
use Rattle.{pb_text.specs.meaning.Blank.ReadsBlank, pb_text.specs.meaning.Whole.events_at, pb_tool.specs.declared.fault.ToolFault.ToolFault}
use Rattle.pb_text.specs.meaning.{Limits.largest, Limits.top_of, PullsInARow.TookAll, PullsInARow.TookSoFar, Stopping.IsAsking, Writing.Wrote, Writing.Broke}
use Rattle.std.specs.Prelude.{◌≡◌, ◌⊎◌, ℕ, List, [], ◌∷◌, ◌++◌, codes, get_or, string_bytes, Bool, true, false, Option, Some, None, Result, Ok, Err}
use Rattle.pb_tool.specs.declared.fault.Input.TheVariants.{File, Instance as of_instance, Proof as of_proof}
use Rattle.pb_tool.specs.declared.fault.ToolFault.TheVariants.{Text, Open, Overflow, Memory, Write, Step}
use Rattle.pb_tool.specs.meaning.Files.{AsksInProofText, IsProofText, IsProofFile, IsInstanceFile, IsNoInstanceFile}
use Rattle.pb_replay.specs.declared.verdict.Verdict.TheVariants as verdict

-- the line of a verdict, with its line feed
abbrev pub verdict_line : Verdict → List ℕ
verdict_line verdict.NoClaim = codes "verified NONE\n"
verdict_line verdict.Unsat = codes "verified UNSAT\n"
verdict_line verdict.Sat = codes "verified SAT\n"
verdict_line (verdict.Bounds lower upper) = codes "verified BOUNDS " ++ (bound_bytes lower ++ (32 ∷ (bound_bytes upper ++ (10 ∷ []))))

-- the name, among these, that a fault gives by its number
abbrev pub IsReported : List (List ℕ) → Fault → List ℕ → Type 0
IsReported names (NotTotal n) name = name ≡ get_or names n []
IsReported names _ name = name ≡ []

-- A call of `check`: the result, and what stood in the two sources and on the output before and after. `S` says what is
-- known of a source: the bytes that are left in it, if these are known, or the bytes that its calls have given.
pub record CheckCall (S W : Type 0) : Type 0 where
  pub instance : S
  pub proof : S
  pub out : W
  pub result : Result Verdict ToolFault
  pub instance_after : S
  pub proof_after : S
  pub out_after : W

-- a call by its parts: the two sources and the output before it, the result, and the three after it
abbrev pub called : {S W : Type 0} → S → S → W → Result Verdict ToolFault → S → S → W → CheckCall S W
called i p o result i' p' o' = record { instance = i; proof = p; out = o; result = result; instance_after = i'; proof_after = p'; out_after = o' }

module _ (limits : Limits) where
  -- The instance opens, and the statements of the proof are accepted with this verdict.
  pub record IsVerified (i : Instance) (p : Proof) (w : Verdict) : Type 0 where
    pub problem : Problem
    pub opened : Opened (largest limits) i (Ok problem)
    pub last : State
    pub accepted : Accepts (largest limits) (top_of limits) problem (first_state problem) (statements_of p) last
    pub claimed : last.concluded ≡ Some w

  module _ (longest : ℕ) (v : Problem) (first : State) (before : Option (List ℕ)) where
    -- The text of a proof was read this far in a source, and its statements lead from the first state to the last.
    pub record IsAccepted (after : Option (List ℕ)) (place : Place) (done : Bool) (stop : Option Stop) (last : State) : Type 0 where
      pub spans : List (Spanned Statement)
      pub took : TookAll (IsProofText limits) longest before after spans place done stop
      pub accepted : Accepts (largest limits) (top_of limits) v first (events_at spans) last

    -- All statements before this one, which begins at the position, were accepted and lead to the state. Nothing after
    -- it was taken.
    pub record ComesTo (after : Option (List ℕ)) (begins : Place) (st : Statement) (state : State) : Type 0 where
      pub spans : List (Spanned Statement)
      pub last : Spanned Statement
      pub took : TookSoFar (IsProofText limits) longest before after (spans ++ last ∷ []) last.past
      pub begins_is : begins ≡ last.first
      pub statement : last.event ≡ st
      pub accepted : Accepts (largest limits) (top_of limits) v first (events_at spans) state

    -- The statement that begins at the position is the first one that is rejected. Its rules reject it, or memory ran
    -- out where it may allocate.
    abbrev pub IsRefusedStep : Option (List ℕ) → Place → Fault → List ℕ → Type 0
    IsRefusedStep after begins e name =
        (st : Statement) × (state : State) × ComesTo after begins st state
        × (((e ≡ no_memory) × MayWantAt (largest limits) (top_of limits) v state.next st)
        ⊎ (Outcome (largest limits) (top_of limits) v state st (Err e) × IsReported state.names e name))

    -- The text is rejected, and every statement before that position was accepted. The stop is in the proof, or in the
    -- rest after it. In the proof, memory runs out only at a byte that may allocate.
    pub data IsRefusedText (after : Option (List ℕ)) (s : Stop) : Type 0 where
      InProof : (last : State) (a : IsAccepted after s.place false (Some s) last) → IsAsking (AsksInProofText limits) a.took.used a.took.seen s.why → IsRefusedText after s
      AfterProof : (mid : Option (List ℕ)) (place : Place) (last : State) (w : Verdict) → IsAccepted mid place true None last → last.concluded ≡ Some w → ReadsBlank place mid (Err s) after → IsRefusedText after s

  module _ (longest : ℕ) {W : Type 0} (contents : W → Option (List ℕ)) (faults : W → ℕ) (c : CheckCall (Option (List ℕ)) W) where
    -- the instance that was read
    abbrev pub HasInstance : Instance → Type 0
    HasInstance = IsInstanceFile limits longest c.instance c.instance_after

    -- the proof that was read
    abbrev pub HasProof : Proof → Type 0
    HasProof = IsProofFile limits longest c.proof c.proof_after

    -- nothing was written
    abbrev pub WritesNothing : Type 0
    WritesNothing = c.out_after ≡ c.out

    -- nothing was read of the proof, and nothing was written
    abbrev pub LeavesProof : Type 0
    LeavesProof = (c.proof_after ≡ c.proof) × WritesNothing

    -- What each result says: what was read and written, and which tests were passed before a fault.
    abbrev pub Returns : Result Verdict ToolFault → Type 0
    Returns (Ok w) =
        (v : Instance) × HasInstance v × (q : Proof) × HasProof q × IsVerified v q w × Wrote contents faults c.out (verdict_line w) c.out_after
    Returns (Err (Text of_instance s)) = IsNoInstanceFile limits longest c.instance c.instance_after s × LeavesProof
    Returns (Err (Overflow of_instance)) = (v : Instance) × HasInstance v × Opened (largest limits) v (Err over) × LeavesProof
    Returns (Err (Memory of_instance)) = (v : Instance) × HasInstance v × FitsAll (largest limits) v × LeavesProof
    Returns (Err (Step place e name)) =
        (v : Instance) × HasInstance v × (problem : Problem) × Opened (largest limits) v (Ok problem)
        × IsRefusedStep longest problem (first_state problem) c.proof c.proof_after place e (string_bytes name) × WritesNothing
    Returns (Err (Text of_proof s)) =
        (v : Instance) × HasInstance v × (problem : Problem) × Opened (largest limits) v (Ok problem)
        × IsRefusedText longest problem (first_state problem) c.proof c.proof_after s × WritesNothing
    Returns (Err Write) =
        (v : Instance) × HasInstance v × (q : Proof) × HasProof q
        × (w : Verdict) × IsVerified v q w × Broke contents faults c.out (verdict_line w) c.out_after
    Returns (Err (Text File s)) = ⊥
    Returns (Err (Overflow File)) = ⊥
    Returns (Err (Overflow of_proof)) = ⊥
    Returns (Err (Memory File)) = ⊥
    Returns (Err (Memory of_proof)) = ⊥
    Returns (Err (Open input)) = ⊥

    -- The two sources were read one after the other. Nothing is written before both were accepted.
    abbrev pub ChecksFiles : Type 0
    ChecksFiles = Returns c.result
