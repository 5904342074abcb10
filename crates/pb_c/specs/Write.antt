-- What the call returns that writes a statement from arrays.
use Rattle.{pb_c.specs.Buffer.Puts, pb_c.specs.Event.event_code, pb_c.specs.Options.IsAsked, pb_c.specs.declared.options.Options.Options, std.specs.Prelude.ℕ}
use Rattle.pb_pieces.specs.{AnyStatement.line_of, GivenTokens.Arrays, declared.any_statement.AnyStatement.AnyStatement, declared.tokenized.EventKind.EventKind}
use Rattle.{pb_pieces.specs.Made.IsMadeOf, pb_text.specs.declared.Limits.Limits, std.specs.Prelude.◌≡◌, std.specs.Prelude.List, std.specs.Prelude.Option}

-- The line is the canonical text of a statement of this kind, with exactly these tokens and this free text. The statement
-- meets the rules under the limits.
abbrev pub IsLineOf : Limits → EventKind → Arrays → List ℕ → List ℕ → Type 0
IsLineOf limits kind a text line = (s : AnyStatement) × IsMadeOf limits kind a text s × (line ≡ line_of s)

-- The options are allowed, and there is a kind with this number. The line of such a statement is put into the room.
abbrev pub Writes : Options → ℕ → Arrays → List ℕ → List ℕ → List ℕ → ℕ → Type 0
Writes o number a text old new whole =
    (limits : Limits) × (longest : Option ℕ) × IsAsked o longest limits × (kind : EventKind) × (event_code kind ≡ number)
    × (line : List ℕ) × IsLineOf limits kind a text line × Puts line old new whole
