-- What a source is read as: an instance or a proof, and a blank rest.
use Rattle.{pb_opb.specs.declared.Instance.Instance, pb_opb.specs.declared.OpbEvent.OpbEvent, pb_proof.specs.declared.Statement.Statement}
use Rattle.pb_opb.specs.meaning.{Instances.IsInstance, Reading.AsksInInstance, Reading.ReadsInstance, Values.IsValueOf}
use Rattle.pb_proof.specs.{declared.Proof.Proof, meaning.Proofs.IsProof, meaning.Proofs.IsProofOf, meaning.Reading.AsksInProof, meaning.Reading.ReadsProof}
use Rattle.pb_text.specs.declared.{Limits.Limits, Spanned.Spanned, Stop.Stop}
use Rattle.pb_text.specs.meaning.{Blank.IsBlank, Blank.ReadsBlank, Limits.largest, Limits.top_of, Pulling.Took, Reading.byte_limit, Spelling.Item, Whole.IsRead}
use Rattle.std.specs.Prelude.{◌≡◌, ◌≤◌, ℕ, List, [], ◌∷◌, ◌++◌, length, Option, Result, Ok, Err, IfSome}

-- the first byte of the text is `p`
abbrev pub BeginsWithP : List ℕ → Type 0
BeginsWithP text = (rest : List ℕ) × (text ≡ 112 ∷ rest)

-- A source is read as a proof if its text begins with `p`, and as an instance otherwise. One whose text is not known
-- may be either.
abbrev pub MayBeProof : Option (List ℕ) → Type 0
MayBeProof source = IfSome source BeginsWithP

abbrev pub MayBeInstance : Option (List ℕ) → Type 0
MayBeInstance source = IfSome source (λ text. ¬ BeginsWithP text)

-- the instances under the limits
abbrev pub IsInstanceText : Limits → List (Item OpbEvent) → Type 0
IsInstanceText limits = IsInstance (largest limits) (top_of limits)

-- the bytes that may allocate in one
abbrev pub AsksInInstanceText : Limits → List ℕ → ℕ → Type 0
AsksInInstanceText limits = AsksInInstance (largest limits) (top_of limits)

-- the proofs under the limits
abbrev pub IsProofText : Limits → List (Item Statement) → Type 0
IsProofText limits = IsProof (largest limits) (top_of limits)

-- the bytes that may allocate in one
abbrev pub AsksInProofText : Limits → List ℕ → ℕ → Type 0
AsksInProofText limits = AsksInProof (largest limits) (top_of limits)

module _ {V : Type 0} where
  -- The input was a text of v and a blank rest, and ended there.
  pub record IsFile (IsReadOf : List ℕ → Spanned V → Type 0) (before after : Option (List ℕ)) (v : V) : Type 0 where
    pub used : List ℕ
    pub rest : List ℕ
    pub took : Took before (used ++ rest) [] after
    pub read : Spanned V
    pub spelled : IsReadOf used read
    pub blank : IsBlank rest
    pub within : length (used ++ rest) ≤ byte_limit
    pub value : read.event ≡ v

  -- The input was rejected: it does not begin with a text of the format, or the rest after that is not blank.
  pub data IsRefused (Reads : Option (List ℕ) → Result (Spanned V) Stop → Option (List ℕ) → Type 0) (before after : Option (List ℕ)) (s : Stop) : Type 0 where
    InText : Reads before (Err s) after → IsRefused Reads before after s
    InRest : (m : Spanned V) (mid : Option (List ℕ)) → Reads before (Ok m) mid → ReadsBlank m.past mid (Err s) after → IsRefused Reads before after s

module _ (limits : Limits) (longest : ℕ) where
  -- the input was an instance and a blank rest
  abbrev pub IsInstanceFile : Option (List ℕ) → Option (List ℕ) → Instance → Type 0
  IsInstanceFile = IsFile (IsRead (IsInstanceText limits) longest IsValueOf)

  abbrev pub IsNoInstanceFile : Option (List ℕ) → Option (List ℕ) → Stop → Type 0
  IsNoInstanceFile = IsRefused (ReadsInstance (largest limits) (top_of limits) longest)

  -- the input was a proof and a blank rest
  abbrev pub IsProofFile : Option (List ℕ) → Option (List ℕ) → Proof → Type 0
  IsProofFile = IsFile (IsRead (IsProofText limits) longest IsProofOf)

  abbrev pub IsNoProofFile : Option (List ℕ) → Option (List ℕ) → Stop → Type 0
  IsNoProofFile = IsRefused (ReadsProof (largest limits) (top_of limits) longest)
