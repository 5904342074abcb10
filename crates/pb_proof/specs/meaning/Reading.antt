-- What is read of a proof, under limits.
use Rattle.pb_proof.specs.{contract.Gather.MayKeep, declared.proof.Proof.Proof, meaning.Asking.Asks, meaning.Proofs.IsProof, meaning.Proofs.IsProofOf}
use Rattle.pb_text.specs.{declared.Spanned.Spanned, declared.Stop.Stop, meaning.Asking.AsksOnly, meaning.Whole.ReadsValue}
use Rattle.std.specs.Prelude.{ℕ, List, Option, Result}

module _ (limit top : ℕ) where
  -- the bytes of a proof at which reading it may allocate
  abbrev pub AsksInProof : List ℕ → ℕ → Type 0
  AsksInProof = AsksOnly (IsProof limit top) Asks

  -- the result of reading from a source that had these bytes before and has those after
  abbrev pub ReadsProof : ℕ → Option (List ℕ) → Result (Spanned Proof) Stop → Option (List ℕ) → Type 0
  ReadsProof longest = ReadsValue (IsProof limit top) longest AsksInProof MayKeep IsProofOf
