-- Which results of a check the bytes alone decide.
use Rattle.{pb_text.specs.declared.Limits.Limits, pb_text.specs.declared.place.Why.Why, pb_tool.specs.declared.fault.ToolFault.ToolFault}
use Rattle.std.specs.Prelude.{◌≡◌, ◌≢◌, ◌↔◌, ℕ, List, [], Option, Some, String, string_bytes, Result, Ok, Err}
use Rattle.{std.specs.declared.alloc.Global.Global, pb_opb.specs.declared.Instance.Instance, pb_proof.specs.declared.Proof.Proof}
use Rattle.pb_replay.specs.declared.{fault.Fault.TheVariants.Memory as no_memory, verdict.Verdict.Verdict}
use Rattle.pb_tool.specs.declared.fault.ToolFault.TheVariants.{Text, Open, Overflow, Memory, Write, Step}
use Rattle.pb_tool.specs.meaning.{Files.IsProofFile, Files.IsInstanceFile, Verified.CheckCall, Verified.ChecksFiles, Verified.IsVerified}
use Rattle.pb_text.specs.declared.place.Why.TheVariants as why

-- The text decides the stop, and not its reader or the memory.
abbrev pub IsOfText : Why → Type 0
IsOfText (why.Byte b) = Unit {0}
IsOfText why.TooLarge = Unit {0}
IsOfText why.Ended = Unit {0}
IsOfText why.TooLong = Unit {0}
IsOfText why.Read = ⊥
IsOfText why.Memory = ⊥

-- The bytes decide the result: nothing failed to be opened, read or written, and memory did not run out.
abbrev pub IsDecided : Result Verdict ToolFault → Type 0
IsDecided (Ok w) = Unit {0}
IsDecided (Err (Text input s)) = IsOfText s.why
IsDecided (Err (Overflow input)) = Unit {0}
IsDecided (Err (Step place e name)) = e ≢ no_memory
IsDecided (Err (Open input)) = ⊥
IsDecided (Err (Memory input)) = ⊥
IsDecided (Err Write) = ⊥

-- The other result is the same. The names in the two have the same bytes.
abbrev pub IsSame : Result Verdict ToolFault → Result Verdict ToolFault → Type 0
IsSame (Err (Step place e name)) other = (text : String Global) × (other ≡ Err (Step place e text)) × (string_bytes name ≡ string_bytes text)
IsSame (Ok w) other = other ≡ Ok w
IsSame (Err (Text input s)) other = other ≡ Err (Text input s)
IsSame (Err (Overflow input)) other = other ≡ Err (Overflow input)
IsSame (Err (Open input)) other = other ≡ Err (Open input)
IsSame (Err (Memory input)) other = other ≡ Err (Memory input)
IsSame (Err Write) other = other ≡ Err Write

module _ (limits : Limits) (longest : ℕ) where
  -- The first bytes are an instance and a blank rest, the second ones a proof and a blank rest. The rules accept the
  -- statements of the proof with the verdict.
  pub record AreVerified (i p : List ℕ) (w : Verdict) : Type 0 where
    pub instance : Instance
    pub first : IsInstanceFile limits longest (Some i) (Some []) instance
    pub proof : Proof
    pub second : IsProofFile limits longest (Some p) (Some []) proof
    pub verified : IsVerified limits instance proof w

-- the two sources are these texts
abbrev pub IsOfTexts : {W : Type 0} → List ℕ → List ℕ → CheckCall (Option (List ℕ)) W → Type 0
IsOfTexts i p c = (c.instance ≡ Some i) × (c.proof ≡ Some p)

module _ {W : Type 0} (contents : W → Option (List ℕ)) (faults : W → ℕ) where
  -- If the bytes decide the result, a check returns a verdict if and only if the bytes are verified with it.
  abbrev pub AnswersExactly : Type 0
  AnswersExactly = (limits : Limits) (longest : ℕ) (i p : List ℕ) (c : CheckCall (Option (List ℕ)) W) (w : Verdict) →
      IsOfTexts i p c → ChecksFiles limits longest contents faults c → IsDecided c.result →
      (c.result ≡ Ok w) ↔ AreVerified limits longest i p w

  -- Two checks of the same bytes have the same result, if the bytes decide both results.
  abbrev pub OneAnswer : Type 0
  OneAnswer = (limits : Limits) (longest : ℕ) (i p : List ℕ) (one other : CheckCall (Option (List ℕ)) W) →
      IsOfTexts i p one → ChecksFiles limits longest contents faults one → IsDecided one.result →
      IsOfTexts i p other → ChecksFiles limits longest contents faults other → IsDecided other.result →
      IsSame one.result other.result
