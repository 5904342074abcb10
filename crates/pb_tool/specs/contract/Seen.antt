-- What the last peek at a source has shown: its end, if it was read to the end, and else what stopped its reader.
use Rattle.{pb_text.specs.meaning.Stopping.IsShown, pb_tool.specs.declared.commands.check.checker.CheckFault.CheckFault}
use Rattle.std.specs.Prelude.{◌≡◌, ℕ, Bool, true, Option, Result, Ok, Err}
use Rattle.pb_tool.specs.declared.fault.Input.TheVariants.{Instance as of_instance, Proof as of_proof}
use Rattle.pb_tool.specs.declared.fault.ToolFault.{ToolFault, TheVariants.Text, TheVariants.Write}
use Rattle.pb_tool.specs.declared.commands.check.checker.CheckFault.TheVariants as check

module _ (shown : Option ℕ) (ended : Bool) where
  -- For a file that is read to its end before anything is written. Each fault but that of its text comes after the end
  -- was shown.
  abbrev pub SawFile : Result Unit ToolFault → Type 0
  SawFile (Ok u) = ended ≡ true
  SawFile (Err (Text i s)) = IsShown shown ended s.why
  SawFile (Err _) = ended ≡ true

  -- for a file whose statements are written as they come
  abbrev pub SawStatements : Result Unit ToolFault → Type 0
  SawStatements (Ok u) = ended ≡ true
  SawStatements (Err (Text i s)) = IsShown shown ended s.why
  SawStatements (Err _) = Unit {0}

  -- for an instance that is read to its end before its proof is
  abbrev pub SawNoInstance : ToolFault → Type 0
  SawNoInstance (Text of_instance s) = IsShown shown ended s.why
  SawNoInstance _ = ended ≡ true

  abbrev pub SawInstance : {A : Type 0} → Result A ToolFault → Type 0
  SawInstance (Ok x) = ended ≡ true
  SawInstance (Err f) = SawNoInstance f

  -- for a proof, which is read to its end before a verdict is written
  abbrev pub SawNoProof : ToolFault → Type 0
  SawNoProof (Text of_proof s) = IsShown shown ended s.why
  SawNoProof Write = ended ≡ true
  SawNoProof _ = Unit {0}

  abbrev pub SawProof : {A : Type 0} → Result A ToolFault → Type 0
  SawProof (Ok x) = ended ≡ true
  SawProof (Err f) = SawNoProof f

  -- for the text of a proof that stopped the run through it
  abbrev pub SawText : CheckFault → Type 0
  SawText (check.Text s) = IsShown shown ended s.why
  SawText (check.Step place e) = Unit {0}
