-- A statement that is made from the arrays of a caller.
use Rattle.pb_pieces.specs.AnyStatement.{IsAnyValue, kind_in, text_in, tokens_in}
use Rattle.pb_pieces.specs.{GivenTokens.AreGiven, GivenTokens.Arrays, declared.any_statement.AnyStatement.AnyStatement, declared.tokenized.EventKind.EventKind}
use Rattle.pb_text.specs.{declared.Limits.Limits, meaning.Limits.largest, meaning.Limits.top_of}
use Rattle.std.specs.Prelude.{◌≡◌, ℕ, List}

-- The statement has this kind, exactly the tokens of the arrays and this free text. It meets the rules under the limits.
pub record IsMadeOf (limits : Limits) (kind : EventKind) (a : Arrays) (text : List ℕ) (s : AnyStatement) : Type 0 where
  pub kind_is : kind_in s ≡ kind
  pub tokens_are : AreGiven a (tokens_in s)
  pub text_is : text_in s ≡ text
  pub value : IsAnyValue (largest limits) (top_of limits) s
