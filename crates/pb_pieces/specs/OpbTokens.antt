-- The tokens of the statements of an instance.
use Rattle.pb_sums.specs.declared.{Linear.Linear, linear.Relation.Relation}
use Rattle.std.specs.Prelude.{ℕ, List, [], ◌∷◌, ◌++◌, None, map, pos}
use Rattle.pb_opb.specs.declared.OpbEvent.{OpbEvent, TheVariants.Header, TheVariants.Comment, TheVariants.Objective, TheVariants.Constraint}
use Rattle.pb_pieces.specs.{NamedTokens.token_of_term, Tokens.Token, Tokens.token, declared.tokenized.EventKind.EventKind, declared.tokens.TokenKind.TokenKind}
use Rattle.pb_sums.specs.declared.linear.Relation.TheVariants as relation
use Rattle.pb_pieces.specs.declared.tokenized.EventKind.TheVariants as event
use Rattle.pb_pieces.specs.declared.tokens.TokenKind.TheVariants as kind

abbrev pub relation_kind : Relation → TokenKind
relation_kind relation.AtLeast = kind.AtLeast
relation_kind relation.Equal = kind.Equal

abbrev pub tokens_of_linear : Linear → List Token
tokens_of_linear c = map token_of_term c.terms ++ token (relation_kind c.relation) c.degree None ∷ []

abbrev pub kind_in : OpbEvent → EventKind
kind_in (Header variables constraints tail) = event.Header
kind_in (Comment text) = event.Comment
kind_in (Objective terms) = event.Objective
kind_in (Constraint c) = event.Constraint

abbrev pub tokens_in : OpbEvent → List Token
tokens_in (Header variables constraints tail) = token kind.Count (pos variables) None ∷ token kind.Count (pos constraints) None ∷ []
tokens_in (Comment text) = []
tokens_in (Objective terms) = map token_of_term terms
tokens_in (Constraint c) = tokens_of_linear c

abbrev pub text_in : OpbEvent → List ℕ
text_in (Header variables constraints tail) = tail
text_in (Comment text) = text
text_in (Objective terms) = []
text_in (Constraint c) = []
