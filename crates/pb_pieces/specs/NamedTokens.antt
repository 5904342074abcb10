-- The tokens of statements, with the names that they are numbered by.
use Rattle.{pb_normal.specs.meaning.Names.HasNames, pb_normal.specs.meaning.Names.number_in, pb_normal.specs.meaning.Names.with_names, std.specs.List.flat_map}
use Rattle.pb_pieces.specs.{Tokens.HoldTokens, Tokens.Token, Tokens.token, declared.named_tokens.NamedTokens.NamedTokens, declared.tokens.TokenKind.TokenKind}
use Rattle.pb_sums.specs.declared.{Literal.Literal, Term.Term}
use Rattle.std.specs.Prelude.{◌≡◌, ℕ, List, [], ◌∷◌, ◌++◌, Bool, true, false, Option, Some, None, map, pos}
use Rattle.pb_pieces.specs.declared.tokens.TokenKind.TheVariants as kind

abbrev pub literal_kind : Bool → TokenKind
literal_kind true = kind.NegatedLiteral
literal_kind false = kind.Literal

abbrev pub term_kind : Bool → TokenKind
term_kind true = kind.NegatedTerm
term_kind false = kind.Term

abbrev pub token_of_literal : Literal → Token
token_of_literal l = token (literal_kind l.negated) (pos 0) (Some l.name)

abbrev pub token_of_term : Term → Token
token_of_term t = token (term_kind t.literal.negated) t.coefficient (Some t.literal.name)

abbrev pub name_in : Option (List ℕ) → List (List ℕ)
name_in None = []
name_in (Some name) = name ∷ []

-- the names of the tokens, in order
abbrev pub names_of : List Token → List (List ℕ)
names_of = flat_map (λ t. name_in t.name)

-- the number of a name among these, or 0 for no name
abbrev pub number_of : List (List ℕ) → Option (List ℕ) → ℕ
number_of names None = 0
number_of names (Some name) = number_in names name

-- These names were seen, and then these tokens. All names are numbered in the order of their first appearance, and the
-- arrays have the tokens.
pub record AreTokens (seen : List (List ℕ)) (tokens : List Token) (n : NamedTokens) : Type 0 where
  pub names_are : n.names ≡ with_names [] (seen ++ names_of tokens)
  pub named : HasNames n.names (names_of tokens)
  pub arrays : HoldTokens tokens (map (λ t. number_of n.names t.name) tokens) n.tokens

-- The tokens were added: whatever tokens the arrays had at the start, they have these after them now.
abbrev pub Adds : NamedTokens → List Token → NamedTokens → Type 0
Adds start tokens now = (seen : List (List ℕ)) (first : List Token) → AreTokens seen first start → AreTokens seen (first ++ tokens) now
