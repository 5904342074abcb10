-- A file whose statements are gathered one by one, and what is ensured for the text of these.
use Rattle.pb_text.specs.{declared.Stop.Stop, meaning.Spelling.Item, meaning.Whole.IsWhole, meaning.Whole.ReadsWhole}
use Rattle.pb_tool.specs.{contract.Tidy.TidiesAs, declared.fault.ToolFault.ToolFault, meaning.Files.IsFile, meaning.Files.IsRefused}
use Rattle.std.specs.Prelude.{ℕ, Bool, List, Option, Result}

module _ {V E : Type 0} (format : List (Item E) → Type 0) (longest : ℕ) (with : V → E → V) (empty : V) where
  -- The input was a text of the format and a blank rest, and the value is that of its statements.
  abbrev pub IsGathered : Option (List ℕ) → Option (List ℕ) → V → Type 0
  IsGathered = IsFile (IsWhole format longest with empty)

  module _ (MayAsk : List ℕ → ℕ → Type 0) (asks : V → E → Bool) where
    abbrev pub IsNotGathered : Option (List ℕ) → Option (List ℕ) → Stop → Type 0
    IsNotGathered = IsRefused (ReadsWhole format longest with empty MayAsk asks)

    module _ (text : V → List ℕ) {W : Type 0} (contents : W → Option (List ℕ)) (faults : W → ℕ) where
      -- What was read of the source, and what was written: the text of the value. Nothing is written before the whole
      -- input was accepted.
      abbrev pub TidiesEach : Option (List ℕ) → W → Result Unit ToolFault → Option (List ℕ) → W → Type 0
      TidiesEach = TidiesAs (IsWhole format longest with empty) (ReadsWhole format longest with empty MayAsk asks) text contents faults
