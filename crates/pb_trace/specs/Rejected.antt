-- The lines of a rejected statement.
use Rattle.{pb_normal.specs.meaning.Form.Form, pb_text.specs.meaning.Writing.Wrote, pb_text.specs.meaning.Writing.Broke, pb_text.specs.meaning.Writing.Writes}
use Rattle.{pb_normal.specs.meaning.Names.AreDistinct, pb_proof.specs.meaning.Canonical.statement_bytes, pb_proof.specs.meaning.Canonical.word_bytes}
use Rattle.pb_proof.specs.declared.{PolWord.PolWord, Statement.Statement, Statement.TheVariants.Pol, Statement.TheVariants.Rup}
use Rattle.pb_replay.specs.declared.fault.Fault.{Fault, TheVariants.Memory as no_memory, TheVariants.NotImplied}
use Rattle.pb_sums.specs.{contract.Canonical.place_bytes, declared.linear.Linear.Linear, meaning.Sums.literal_bytes}
use Rattle.{pb_text.specs.declared.Failed.Failed, pb_text.specs.declared.Limits.Limits, pb_text.specs.declared.Spanned.Spanned, std.specs.Fmt.signed_decimal}
use Rattle.pb_tool.specs.declared.{CheckFault.CheckFault, CheckFault.TheVariants.Text as ended_text, CheckFault.TheVariants.Step, Input.TheVariants.Proof}
use Rattle.pb_tool.specs.declared.ToolFault.{ToolFault, TheVariants.Memory as NoMemory, TheVariants.Write as NotWritten}
use Rattle.pb_trace.specs.{Changes.form_bytes, Changes.name_shown, declared.piece.Derivation.Derivation, declared.piece.Lines.Lines, declared.piece.Piece.Piece}
use Rattle.pb_trace.specs.{Derived.IsShown, Live.live_in, Named.Known, Named.derivation_bytes, Named.named_bytes}
use Rattle.pb_trace.specs.declared.piece.Piece.TheVariants.{Text, Count, Number, Literal, Constraint, Form as Unnamed, Word}
use Rattle.pb_trace.specs.declared.piece.Reasons.{Reasons, TheVariants.Nothing as NoReason, TheVariants.Plain, TheVariants.Shown}
use Rattle.std.specs.Prelude.{◌≡◌, ◌≢◌, ◌⊎◌, ℕ, ◌-◌, List, [], ◌++◌, slice_get, decimal, codes, Option, Some, None, Result, Ok, Err}

-- The statement is wrong: memory did not run out for it.
abbrev pub IsWrong : CheckFault → Type 0
IsWrong (ended_text s) = ⊥
IsWrong (Step begins e) = e ≢ no_memory

-- the fault of a wrong statement; a text that ended has none
abbrev pub fault_in : CheckFault → Fault
fault_in (ended_text s) = no_memory
fault_in (Step begins e) = e

-- the position, the statement, and that it was rejected
abbrev pub rejected_line : Spanned Statement → List ℕ
rejected_line read = (place_bytes read.first ++ statement_bytes read.event) ++ codes " -> rejected\n"

-- the words of a `pol`
abbrev pub words_of : Statement → List PolWord
words_of (Pol ws) = ws
words_of _ = []

-- a word, if there is one
abbrev pub word_shown : Option PolWord → List ℕ
word_shown None = []
word_shown (Some w) = word_bytes w

module _ (known : Known) where
  -- a part of a reason
  abbrev pub piece_bytes : Piece → List ℕ
  piece_bytes (Text t) = t.now
  piece_bytes (Count n) = decimal n
  piece_bytes (Number z) = signed_decimal z
  piece_bytes (Literal variable negated) = literal_bytes negated (name_shown known.names variable)
  piece_bytes (Constraint id) = named_bytes known [] id
  piece_bytes (Unnamed f) = form_bytes known.names f
  piece_bytes (Word position) = word_shown (slice_get known.words (position - 1))

  -- such parts, one after another
  pub data ArePieces : List ℕ → Type 0 where
    Nothing : ArePieces []
    Then : (text : List ℕ) (piece : Piece) → ArePieces text → ArePieces (text ++ piece_bytes piece)

  -- Lines of the reasons for a rejection. Each begins with two spaces. Its constraints are stored ones or have no id,
  -- its literals have the names of the replay, and its words are those of the statement.
  pub data AreReasons : List ℕ → Type 0 where
    Silence : AreReasons []
    More : (text line : List ℕ) → AreReasons text → ArePieces line
        → AreReasons (text ++ (codes "  " ++ (line ++ codes "\n")))

  -- the lines before a derivation, if there are any
  abbrev pub AreBefore : Option Lines → List ℕ → Type 0
  AreBefore None text = text ≡ []
  AreBefore (Some lines) text = AreReasons text

  -- a derivation, between such lines
  pub record AreAround (before : Option Lines) (d : Derivation) (text : List ℕ) : Type 0 where
    pub first : List ℕ
    pub rest : List ℕ
    pub begins : AreBefore before first
    pub ends : AreReasons rest
    pub whole : text ≡ first ++ (derivation_bytes known d ++ rest)

  -- the text of what is known of a rejection
  abbrev pub IsText : Reasons → List ℕ → Type 0
  IsText NoReason text = text ≡ []
  IsText (Plain lines) text = AreReasons text
  IsText (Shown before d after) text = AreAround before d text

module _ {S : Type 0} (contents : S → Option (List ℕ)) (faults : S → ℕ) where
  -- The sink took such a text, or a prefix of it and then failed once.
  abbrev pub WritesSome : (List ℕ → Type 0) → S → Result Unit Failed → S → Type 0
  WritesSome p old result new = (text : List ℕ) × p text × Writes contents faults old text result new

  abbrev pub WritesReasons : Known → S → Result Unit Failed → S → Type 0
  WritesReasons known = WritesSome (AreReasons known)

  abbrev pub WritesPieces : Known → S → Result Unit Failed → S → Type 0
  WritesPieces known = WritesSome (ArePieces known)

  abbrev pub WritesBefore : Known → Option Lines → S → Result Unit Failed → S → Type 0
  WritesBefore known before = WritesSome (AreBefore known before)

  abbrev pub WritesShown : Known → Option Lines → Derivation → S → Result Unit Failed → S → Type 0
  WritesShown known before d = WritesSome (AreAround known before d)

  abbrev pub WritesAll : Known → Reasons → S → Result Unit Failed → S → Type 0
  WritesAll known reasons = WritesSome (IsText known reasons)

-- What a rejected statement is seen with: the names of the replay, the constraints that the trace stores as live, the
-- lines of those of the instance, the statement and its fault.
pub record Seen : Type 0 where
  pub names : List (List ℕ)
  pub live : List (Option Form)
  pub lines : List ℕ
  pub limits : Limits
  pub statement : Statement
  pub fault : Fault

-- a `rup` whose goal propagation does not show
abbrev pub IsUnshown : Statement → Fault → Linear → Type 0
IsUnshown statement fault goal = (statement ≡ Rup goal) × (fault ≡ NotImplied)

-- The text of the reasons for what is seen. If a `rup` is not implied, it begins with the negation of the goal and
-- what that propagates.
pub record IsWhy (seen : Seen) (text : List ℕ) : Type 0 where
  pub known : Known
  pub reasons : Reasons
  pub live : live_in known.stored ≡ seen.live
  pub names : known.names ≡ seen.names
  pub lines : known.lines ≡ seen.lines
  pub words : known.words ≡ words_of seen.statement
  pub written : IsText known reasons text
  pub shown : (goal : Linear) → IsUnshown seen.statement seen.fault goal → AreDistinct known.names
      → IsShown seen.limits known.names known.stored goal reasons

module _ {S : Type 0} (contents : S → Option (List ℕ)) (faults : S → ℕ) where
  -- What a rejected statement leaves in the sink of a trace, by how the trace ends: some bytes and then reasons, or a
  -- prefix of them and one fault. If memory ran out for the reasons, there are these bytes alone.
  abbrev pub Rejects : List ℕ → S → Seen → Result Unit ToolFault → S → Type 0
  Rejects start old seen (Ok u) new = (text : List ℕ) × IsWhy seen text × Wrote contents faults old (start ++ text) new
  Rejects start old seen (Err NotWritten) new =
      Broke contents faults old start new
      ⊎ ((text : List ℕ) × IsWhy seen text × Broke contents faults old (start ++ text) new)
  Rejects start old seen (Err (NoMemory Proof)) new = Wrote contents faults old start new
  Rejects start old seen (Err _) new = ⊥
