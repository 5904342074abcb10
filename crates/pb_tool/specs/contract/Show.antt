-- What `pb show` writes: a line for each statement that was read.
use Rattle.{pb_opb.specs.contract.Canonical.event_bytes, pb_proof.specs.meaning.Canonical.statement_bytes, std.specs.List.flat_map}
use Rattle.pb_text.specs.declared.{Limits.Limits, Place.Place, Spanned.Spanned, Stop.Stop}
use Rattle.pb_text.specs.meaning.{Blank.IsBlank, Blank.ReadsBlank, Pulling.Took, Stopping.IsAsking, Writing.Wrote, Writing.Broke}
use Rattle.pb_text.specs.meaning.{PullsInARow.TookAll, PullsInARow.TookSoFar, Reading.IsSpelled, Reading.byte_limit, Spelling.Item, Spelling.place_after}
use Rattle.pb_tool.specs.declared.fault.{Input.TheVariants.File, Input.TheVariants.Instance, Input.TheVariants.Proof, ToolFault.ToolFault}
use Rattle.pb_tool.specs.declared.fault.ToolFault.TheVariants.{Text, Open, Overflow, Memory, Write, Step}
use Rattle.pb_tool.specs.meaning.Files.{AsksInInstanceText, AsksInProofText, IsInstanceText, IsProofText, MayBeInstance, MayBeProof}
use Rattle.std.specs.Prelude.{ℕ, ◌≤◌, ◌⊎◌, List, [], ◌∷◌, ◌++◌, length, decimal, false, Option, Some, Result, Ok, Err}

module _ {E : Type 0} (text : E → List ℕ) where
  -- the canonical text of a statement and a line feed
  abbrev pub line_of : E → List ℕ
  line_of e = text e ++ 10 ∷ []

  -- the line that shows a statement: `L:C `, the line and the column of its first byte, and then its canonical line
  abbrev pub shown_line : Spanned E → List ℕ
  shown_line m = decimal m.first.line ++ (58 ∷ (decimal m.first.column ++ (32 ∷ line_of m.event)))

  -- the lines of statements, in their order
  abbrev pub shown : List (Spanned E) → List ℕ
  shown = flat_map shown_line

-- The rest of an input was blank; or why it was not, or was not read to its end.
abbrev pub EndsAt : Place → Option (List ℕ) → Result Unit ToolFault → Option (List ℕ) → Type 0
EndsAt place before (Ok u) after = ReadsBlank place before (Ok u) after
EndsAt place before (Err (Text File s)) after = ReadsBlank place before (Err s) after
EndsAt place before (Err _) after = ⊥

module _ {E : Type 0} (format : List (Item E) → Type 0) (longest : ℕ) where
  -- The input was a text of the format with these spans and a blank rest, and ended there.
  pub record IsSpelling (before after : Option (List ℕ)) (spans : List (Spanned E)) : Type 0 where
    pub used : List ℕ
    pub rest : List ℕ
    pub took : Took before (used ++ rest) [] after
    pub spelled : IsSpelled format longest used spans
    pub blank : IsBlank rest
    pub within : length (used ++ rest) ≤ byte_limit

  -- The input was rejected after these spans: in the text, or in the rest after a whole text. In the text, memory runs
  -- out only at a byte that may allocate.
  pub data IsRefusedAfter (MayAsk : List ℕ → ℕ → Type 0) (before after : Option (List ℕ)) (spans : List (Spanned E)) (s : Stop) : Type 0 where
    InText : (all : TookAll format longest before after spans s.place false (Some s)) → IsAsking MayAsk all.used all.seen s.why → IsRefusedAfter MayAsk before after spans s
    InRest : (used seen : List ℕ) (mid : Option (List ℕ)) → Took before used seen mid → IsSpelled format longest used spans → ReadsBlank (place_after used) mid (Err s) after → IsRefusedAfter MayAsk before after spans s

  module _ (MayAsk : List ℕ → ℕ → Type 0) (text : E → List ℕ) {W : Type 0} (contents : W → Option (List ℕ)) (faults : W → ℕ) where
    -- What was read of the source, and what was written: the line of each statement that was read. After a write fault,
    -- the lines of all statements read but the last were written, and a prefix of the last line.
    abbrev pub ShowsLines : Option (List ℕ) → W → Result Unit ToolFault → Option (List ℕ) → W → Type 0
    ShowsLines before old (Ok u) after new = (spans : List (Spanned E)) × IsSpelling before after spans × Wrote contents faults old (shown text spans) new
    ShowsLines before old (Err (Text File s)) after new = (spans : List (Spanned E)) × IsRefusedAfter MayAsk before after spans s × Wrote contents faults old (shown text spans) new
    ShowsLines before old (Err Write) after new =
        (spans : List (Spanned E)) × (last : Spanned E) × (mid : W) × TookSoFar format longest before after (spans ++ last ∷ []) last.past
        × Wrote contents faults old (shown text spans) mid × Broke contents faults mid (shown_line text last) new
    ShowsLines before old (Err (Text Instance s)) after new = ⊥
    ShowsLines before old (Err (Text Proof s)) after new = ⊥
    ShowsLines before old (Err (Open i)) after new = ⊥
    ShowsLines before old (Err (Overflow i)) after new = ⊥
    ShowsLines before old (Err (Memory i)) after new = ⊥
    ShowsLines before old (Err (Step place e name)) after new = ⊥

-- What was read of the source, as a proof or as an instance, and what was written.
module _ (limits : Limits) (longest : ℕ) {W : Type 0} (contents : W → Option (List ℕ)) (faults : W → ℕ) where
  abbrev pub ShowsFile : Option (List ℕ) → W → Result Unit ToolFault → Option (List ℕ) → W → Type 0
  ShowsFile before old result after new =
      (MayBeProof before × ShowsLines (IsProofText limits) longest (AsksInProofText limits) statement_bytes contents faults before old result after new)
      ⊎ (MayBeInstance before × ShowsLines (IsInstanceText limits) longest (AsksInInstanceText limits) event_bytes contents faults before old result after new)
