-- A statement of an instance or of a proof.
use Rattle.{pb_opb.specs.contract.Canonical.event_bytes, pb_opb.specs.declared.OpbEvent.OpbEvent, pb_opb.specs.meaning.Instances.IsTail, std.specs.Prelude.[]}
use Rattle.{pb_sums.specs.contract.Canonical.AreTerms, pb_sums.specs.contract.Canonical.IsLinear, std.specs.Prelude.ℕ}
use Rattle.{pb_text.specs.meaning.Blank.IsInLine, pb_proof.specs.contract.Values.IsStatementValue, pb_proof.specs.meaning.Canonical.statement_bytes}
use Rattle.{std.specs.Prelude.◌≤◌, std.specs.Prelude.List, pb_pieces.specs.Tokens.Token, pb_pieces.specs.declared.tokenized.EventKind.EventKind}
use Rattle.pb_pieces.specs.declared.any_statement.AnyStatement.{AnyStatement, TheVariants.Instance, TheVariants.Proof}
use Rattle.pb_opb.specs.declared.OpbEvent.TheVariants as opb
use Rattle.pb_pieces.specs.OpbTokens as instance
use Rattle.pb_pieces.specs.ProofTokens as proof

abbrev pub kind_in : AnyStatement → EventKind
kind_in (Instance event) = instance.kind_in event
kind_in (Proof statement) = proof.kind_in statement

abbrev pub tokens_in : AnyStatement → List Token
tokens_in (Instance event) = instance.tokens_in event
tokens_in (Proof statement) = proof.tokens_in statement

abbrev pub text_in : AnyStatement → List ℕ
text_in (Instance event) = instance.text_in event
text_in (Proof statement) = []

-- its canonical text, without a line feed at its end
abbrev pub line_of : AnyStatement → List ℕ
line_of (Instance event) = event_bytes event
line_of (Proof statement) = statement_bytes statement

module _ (limit top : ℕ) where
  -- The rules of the values of a statement of an instance.
  abbrev pub IsEventValue : OpbEvent → Type 0
  IsEventValue (opb.Header variables constraints tail) = (variables ≤ top) × (constraints ≤ top) × IsTail tail
  IsEventValue (opb.Comment text) = IsInLine text
  IsEventValue (opb.Objective terms) = AreTerms limit terms
  IsEventValue (opb.Constraint c) = IsLinear limit c

  abbrev pub IsAnyValue : AnyStatement → Type 0
  IsAnyValue (Instance event) = IsEventValue event
  IsAnyValue (Proof statement) = IsStatementValue limit top statement
