-- What `pb tidy` writes.
use Rattle.pb_opb.specs.{contract.Canonical.instance_bytes, declared.Instance.Instance, meaning.Reading.ReadsInstance, meaning.Values.IsValueOf}
use Rattle.pb_proof.specs.{declared.Proof.Proof, meaning.Canonical.proof_bytes, meaning.Proofs.IsProofOf, meaning.Reading.ReadsProof}
use Rattle.pb_sums.specs.declared.{Linear.Linear, Term.Term}
use Rattle.pb_text.specs.declared.{Limits.Limits, Spanned.Spanned, Stop.Stop}
use Rattle.pb_text.specs.meaning.{Limits.largest, Limits.top_of, Whole.IsRead, Writing.Wrote, Writing.Broke}
use Rattle.pb_tool.specs.{contract.Normalised.IsNormalised, contract.Normalised.Overflows, declared.fault.Input.TheVariants.File}
use Rattle.pb_tool.specs.declared.fault.ToolFault.{ToolFault, TheVariants.Text, TheVariants.Overflow, TheVariants.Memory, TheVariants.Write}
use Rattle.pb_tool.specs.meaning.Files.{IsFile, IsInstanceFile, IsInstanceText, IsNoInstanceFile, IsProofText, IsRefused, MayBeInstance, MayBeProof}
use Rattle.std.specs.Prelude.{◌≡◌, ◌⊎◌, ℕ, ◌==◌, Bool, true, false, cond, List, [], ◌∷◌, ◌++◌, Option, Some, None, Result, Ok, Err}

-- the last byte is a line feed
abbrev pub ends_in_feed : List ℕ → Bool
ends_in_feed [] = false
ends_in_feed (b ∷ []) = b == 10
ends_in_feed (b ∷ c ∷ text) = ends_in_feed (c ∷ text)

-- the text, and a line feed if it does not end in one
abbrev pub with_feed : List ℕ → List ℕ
with_feed text = cond (ends_in_feed text) text (text ++ 10 ∷ [])

-- what is written for an instance
abbrev pub tidied : Instance → List ℕ
tidied v = with_feed (instance_bytes v)

-- what is written for a proof
abbrev pub tidied_proof : Proof → List ℕ
tidied_proof v = proof_bytes v ++ 10 ∷ []

-- there is nothing but a header
abbrev pub is_bare : Option (List Term) → List Linear → Bool
is_bare None [] = true
is_bare None (c ∷ constraints) = false
is_bare (Some terms) constraints = false

-- what is written with `normal`: the normal form of v, if no constraint exceeds the limit
abbrev pub HasNormalForm : ℕ → Instance → Instance → Type 0
HasNormalForm limit v w = IsNormalised v w × ¬ Overflows limit v

-- Why there is none: a constraint of v exceeds the limit, or none does and memory ran out.
abbrev pub LacksNormalForm : ℕ → Instance → ToolFault → Type 0
LacksNormalForm limit v (Overflow File) = Overflows limit v
LacksNormalForm limit v (Memory File) = ¬ Overflows limit v
LacksNormalForm limit v _ = ⊥

-- What was written: the text of a value of the input, or nothing, and then the fault says why.
module _ {V : Type 0} (Has : V → Type 0) (IsWhy : ToolFault → Type 0) (text : V → List ℕ) {W : Type 0} (contents : W → Option (List ℕ)) (faults : W → ℕ) where
  abbrev pub WritesText : W → Result Unit ToolFault → W → Type 0
  WritesText old (Ok u) new = (v : V) × Has v × Wrote contents faults old (text v) new
  WritesText old (Err Write) new = (v : V) × Has v × Broke contents faults old (text v) new
  WritesText old (Err e) new = IsWhy e × (new ≡ old)

-- the fault is that the reader stopped in the text of the file
abbrev pub IsStopped : (Stop → Type 0) → ToolFault → Type 0
IsStopped Holds (Text File s) = Holds s
IsStopped Holds _ = ⊥

-- What was read of the source, in one way of reading, and what was written. Nothing is written before the whole input
-- was accepted.
module _ {V : Type 0} (IsReadOf : List ℕ → Spanned V → Type 0) (Reads : Option (List ℕ) → Result (Spanned V) Stop → Option (List ℕ) → Type 0) (text : V → List ℕ) {W : Type 0} (contents : W → Option (List ℕ)) (faults : W → ℕ) where
  abbrev pub TidiesAs : Option (List ℕ) → W → Result Unit ToolFault → Option (List ℕ) → W → Type 0
  TidiesAs before old result after new = WritesText (IsFile IsReadOf before after) (IsStopped (IsRefused Reads before after)) text contents faults old result new

module _ (limits : Limits) (longest : ℕ) where
  -- with `normal`: the normal form of the instance that the input was, or why there is none
  abbrev pub IsNormalFile : Option (List ℕ) → Option (List ℕ) → Instance → Type 0
  IsNormalFile before after w = (v : Instance) × IsInstanceFile limits longest before after v × HasNormalForm (largest limits) v w

  abbrev pub IsNoNormalFile : Option (List ℕ) → Option (List ℕ) → ToolFault → Type 0
  IsNoNormalFile before after (Text File s) = IsNoInstanceFile limits longest before after s
  IsNoNormalFile before after e = (v : Instance) × IsInstanceFile limits longest before after v × LacksNormalForm (largest limits) v e

  -- What was read of the source, and what was written. Nothing is written before the whole input was accepted and, with
  -- `normal`, every constraint was normalised.
  abbrev pub Tidies : Bool → {W : Type 0} → (W → Option (List ℕ)) → (W → ℕ) → Option (List ℕ) → W → Result Unit ToolFault → Option (List ℕ) → W → Type 0
  Tidies false contents faults before old result after new = TidiesAs (IsRead (IsInstanceText limits) longest IsValueOf) (ReadsInstance (largest limits) (top_of limits) longest) tidied contents faults before old result after new
  Tidies true contents faults before old result after new = WritesText (IsNormalFile before after) (IsNoNormalFile before after) tidied contents faults old result new

  module _ {W : Type 0} (contents : W → Option (List ℕ)) (faults : W → ℕ) where
    -- What was read of the source as a proof, and what was written. Nothing is written before the whole input was
    -- accepted.
    abbrev pub TidiesProof : Option (List ℕ) → W → Result Unit ToolFault → Option (List ℕ) → W → Type 0
    TidiesProof = TidiesAs (IsRead (IsProofText limits) longest IsProofOf) (ReadsProof (largest limits) (top_of limits) longest) tidied_proof contents faults

    -- With `normal` the source is read as an instance, whatever its text begins with.
    abbrev pub TidiesFile : Bool → Option (List ℕ) → W → Result Unit ToolFault → Option (List ℕ) → W → Type 0
    TidiesFile true before old result after new = Tidies true contents faults before old result after new
    TidiesFile false before old result after new =
        (MayBeProof before × TidiesProof before old result after new)
        ⊎ (MayBeInstance before × Tidies false contents faults before old result after new)
