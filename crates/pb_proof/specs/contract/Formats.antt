-- The laws of the format of proofs.
use Rattle.pb_proof.specs.{declared.statement.Statement.Statement, engine.machine.State.proofs, engine.machine.State.begin, meaning.Proofs.IsProof}
use Rattle.pb_text.specs.contract.{Automaton.AcceptsItems, FormatLaws.IsOneText, FormatLaws.FixesSpans, FormatLaws.IsPrefixFree, FormatLaws.Widens}
use Rattle.{pb_text.specs.meaning.Spelling.Item, std.specs.Prelude.ℕ, std.specs.Prelude.List, std.specs.Prelude.◌↔◌}

-- A new machine accepts exactly the proofs.
abbrev pub ReadsProofs : Type 0
ReadsProofs = (limit top : ℕ) (items : List (Item Statement)) → AcceptsItems proofs (begin limit top) items ↔ IsProof limit top items

-- A text is the text of at most one proof.
abbrev pub OneProof : Type 0
OneProof = IsOneText IsProof

-- In all texts that begin with the same prefix, the spans that end within it are the same.
abbrev pub FixedSpans : Type 0
FixedSpans = FixesSpans IsProof

-- No proof is a prefix of another.
abbrev pub PrefixFree : Type 0
PrefixFree = IsPrefixFree IsProof

-- A proof under limits is a proof under larger limits.
abbrev pub LargerLimits : Type 0
LargerLimits = Widens IsProof
