-- What is ensured for any source, files included. It is what is ensured for a source whose bytes are known, with the
-- bytes that the calls have given.
use Rattle.{pb_opb.specs.contract.Canonical.event_bytes, pb_tool.specs.meaning.Files.AsksInProofText, pb_tool.specs.meaning.Files.AsksInInstanceText}
use Rattle.{pb_proof.specs.meaning.Canonical.statement_bytes, pb_text.specs.declared.Limits.Limits, pb_text.specs.meaning.Pulling.OfGiven}
use Rattle.pb_tool.specs.{contract.Show.ShowsLines, contract.Tidy.TidiesProof, contract.Tidy.Tidies, meaning.Files.IsProofText, meaning.Files.IsInstanceText}
use Rattle.pb_tool.specs.{declared.fault.ToolFault.ToolFault, meaning.Verified.called, meaning.Verified.CheckCall, meaning.Verified.ChecksFiles}
use Rattle.std.specs.Prelude.{◌⊎◌, ℕ, Bool, true, false, List, Option, Result}

module _ (limits : Limits) (longest : ℕ) {W : Type 0} (contents : W → Option (List ℕ)) (faults : W → ℕ) where
  -- With `normal` the source is read as an instance. Otherwise it is read as a proof or as an instance. A peek at its
  -- first byte decides which. The next call need not give the byte that the peek showed.
  abbrev pub TidiesGiven : Bool → List ℕ → W → Result Unit ToolFault → List ℕ → W → Type 0
  TidiesGiven true before old result after new = OfGiven (λ left rest. Tidies limits longest true contents faults left old result rest new) before after
  TidiesGiven false before old result after new =
      OfGiven (λ left rest. TidiesProof limits longest contents faults left old result rest new) before after
      ⊎ OfGiven (λ left rest. Tidies limits longest false contents faults left old result rest new) before after

  -- The same for `pb show`: the source is read as a proof or as an instance.
  abbrev pub ShowsGiven : List ℕ → W → Result Unit ToolFault → List ℕ → W → Type 0
  ShowsGiven before old result after new =
      OfGiven (λ left rest. ShowsLines (IsProofText limits) longest (AsksInProofText limits) statement_bytes contents faults left old result rest new) before after
      ⊎ OfGiven (λ left rest. ShowsLines (IsInstanceText limits) longest (AsksInInstanceText limits) event_bytes contents faults left old result rest new) before after

  -- The same for `pb check`: for the bytes that the calls gave of the instance, and those of the proof.
  abbrev pub ChecksGiven : CheckCall (List ℕ) W → Type 0
  ChecksGiven c =
      OfGiven (λ i i'. OfGiven (λ p p'. ChecksFiles limits longest contents faults (called i p c.out c.result i' p' c.out_after)) c.proof c.proof_after)
      c.instance c.instance_after
