-- The tokens of a statement in arrays.
use Rattle.pb_pieces.specs.{Words.high_word, Words.low_word, declared.tokens.TokenKind.TokenKind, declared.tokens.Tokens.Tokens}
use Rattle.pb_pieces.specs.declared.tokens.TokenKind.TheVariants.{Term, NegatedTerm, Literal, NegatedLiteral, AtLeast, Equal, Count, Id, Add, Multiply, Divide}
use Rattle.pb_pieces.specs.declared.tokens.TokenKind.TheVariants.{Saturate, Weaken, Bound, Infinite, Solution}
use Rattle.std.specs.Prelude.{◌≡◌, ℕ, ℤ, List, Option, map}

-- what a token is, its number, or 0, and the bytes of its name, if it has one
pub record Token : Type 0 where
  pub kind : TokenKind
  pub number : ℤ
  pub name : Option (List ℕ)

abbrev pub token : TokenKind → ℤ → Option (List ℕ) → Token
token kind number name = record { kind = kind; number = number; name = name }

abbrev pub token_code : TokenKind → ℕ
token_code Term = 1
token_code NegatedTerm = 2
token_code Literal = 3
token_code NegatedLiteral = 4
token_code AtLeast = 5
token_code Equal = 6
token_code Count = 7
token_code Id = 8
token_code Add = 9
token_code Multiply = 10
token_code Divide = 11
token_code Saturate = 12
token_code Weaken = 13
token_code Bound = 14
token_code Infinite = 15
token_code Solution = 16

-- the arrays have these tokens, with these numbers of their names
pub record HoldTokens (tokens : List Token) (names : List ℕ) (t : Tokens) : Type 0 where
  pub codes : t.codes.items ≡ map (λ x. token_code x.kind) tokens
  pub names_are : t.names.items ≡ names
  pub lows : t.lows.items ≡ map (λ x. low_word x.number) tokens
  pub highs : t.highs.items ≡ map (λ x. high_word x.number) tokens
