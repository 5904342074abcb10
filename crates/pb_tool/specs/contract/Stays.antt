-- What `pb tidy` reads of a text that it wrote.
use Rattle.{pb_opb.specs.declared.Instance.Instance, pb_opb.specs.meaning.Values.IsInstanceValue, pb_text.specs.declared.Stop.Stop}
use Rattle.pb_proof.specs.{contract.Values.IsProofValue, declared.Proof.Proof}
use Rattle.pb_text.specs.{declared.Limits.Limits, declared.Why.Why, meaning.Limits.largest, meaning.Limits.top_of, meaning.Writing.Wrote, meaning.Writing.Broke}
use Rattle.pb_text.specs.declared.Why.TheVariants.{Byte, TooLarge, Ended, TooLong, Read, Memory}
use Rattle.pb_tool.specs.contract.Tidy.{tidied_proof, TidiesFile, tidied}
use Rattle.pb_tool.specs.declared.fault.{Input.TheVariants.File, ToolFault.ToolFault, ToolFault.TheVariants.Text, ToolFault.TheVariants.Write}
use Rattle.pb_tool.specs.meaning.Files.{BeginsWithP, IsProofFile, IsNoProofFile, IsInstanceFile, IsNoInstanceFile}
use Rattle.std.specs.Prelude.{◌≡◌, ℕ, ◌^◌, ◌<◌, false, List, [], length, Option, Some, Result, Ok, Err}

-- Not a fault of a text of this many bytes: the source failed, memory ran out, or the text is longer than the reader
-- allows.
abbrev pub IsOutside : ℕ → Why → Type 0
IsOutside size Read = Unit {0}
IsOutside size Memory = Unit {0}
IsOutside size TooLong = 2 ^ 40 < size
IsOutside size (Byte b) = ⊥
IsOutside size TooLarge = ⊥
IsOutside size Ended = ⊥

-- For values that meet rules under limits, and the text that is written for them.
module _ {V : Type 0} (IsValue : Limits → V → Type 0) (text : V → List ℕ) where
  -- The text of v is read as v alone, whatever the limit on a statement is.
  abbrev pub ReadsAsItself : (Limits → ℕ → Option (List ℕ) → Option (List ℕ) → V → Type 0) → Type 0
  ReadsAsItself IsFileOf = (limits : Limits) (longest : ℕ) (v w : V) (after : Option (List ℕ)) → IsValue limits v → IsFileOf limits longest (Some (text v)) after w → w ≡ v

  -- With no limit on statements, the text of v is not rejected for a fault of its own.
  abbrev pub IsFaultless : (Limits → ℕ → Option (List ℕ) → Option (List ℕ) → Stop → Type 0) → Type 0
  IsFaultless IsNoFile = (limits : Limits) (v : V) (s : Stop) (after : Option (List ℕ)) → IsValue limits v → IsNoFile limits (2 ^ 40) (Some (text v)) after s
      → IsOutside (length (text v)) s.why

-- For an instance.

-- v meets the rules of a value under the limits
abbrev pub IsInstanceWithin : Limits → Instance → Type 0
IsInstanceWithin limits v = IsInstanceValue (largest limits) (top_of limits) v

abbrev pub StaysAsIs : Type 0
StaysAsIs = ReadsAsItself IsInstanceWithin tidied IsInstanceFile

-- Its text is treated as an instance.
abbrev pub IsReadAsInstance : Type 0
IsReadAsInstance = (v : Instance) → ¬ BeginsWithP (tidied v)

abbrev pub HasNoFault : Type 0
HasNoFault = IsFaultless IsInstanceWithin tidied IsNoInstanceFile

-- For a proof.

-- v meets the rules of a value under the limits
abbrev pub IsProofWithin : Limits → Proof → Type 0
IsProofWithin limits v = IsProofValue (largest limits) (top_of limits) v

abbrev pub ProofStaysAsIs : Type 0
ProofStaysAsIs = ReadsAsItself IsProofWithin tidied_proof IsProofFile

-- Its text is treated as a proof.
abbrev pub IsReadAsProof : Type 0
IsReadAsProof = (v : Proof) → BeginsWithP (tidied_proof v)

abbrev pub ProofHasNoFault : Type 0
ProofHasNoFault = IsFaultless IsProofWithin tidied_proof IsNoProofFile

-- For a run of `tidy` over what it wrote.
module _ {W : Type 0} (contents : W → Option (List ℕ)) (faults : W → ℕ) where
  -- It wrote this text, or failed in writing it; or it rejected its input for one of these reasons and wrote nothing.
  abbrev pub WroteAgain : List ℕ → (Why → Type 0) → W → Result Unit ToolFault → W → Type 0
  WroteAgain text MayStop old (Ok u) new = Wrote contents faults old text new
  WroteAgain text MayStop old (Err Write) new = Broke contents faults old text new
  WroteAgain text MayStop old (Err (Text File s)) new = MayStop s.why × (new ≡ old)
  WroteAgain text MayStop old (Err _) new = ⊥

  -- A run of `tidy` wrote a text into an empty sink. A run over that text under the same limits writes the same. With
  -- no limit on statements, it does not reject the text for a fault of its own.
  abbrev pub TidiesAgain : Type 0
  TidiesAgain = (limits : Limits) (longest again : ℕ) (text : List ℕ) (before after rest : Option (List ℕ)) (empty full old new : W) (result : Result Unit ToolFault)
      → contents empty ≡ Some [] → contents full ≡ Some text → TidiesFile limits longest contents faults false before empty (Ok tt) after full
      → TidiesFile limits again contents faults false (Some text) old result rest new
      → WroteAgain text (λ why. again ≡ 2 ^ 40 → IsOutside (length text) why) old result new
