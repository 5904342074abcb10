-- The tokens of the statements of a proof.
use Rattle.pb_pieces.specs.{NamedTokens.token_of_literal, OpbTokens.tokens_of_linear, Tokens.Token, Tokens.token, declared.tokenized.EventKind.EventKind}
use Rattle.{pb_proof.specs.declared.Statement.Statement, pb_sums.specs.declared.Literal.Literal}
use Rattle.pb_proof.specs.declared.Statement.TheVariants.{Header, F, Pol, Rup, Soli, Solx, Delete, Output, Conclude, End}
use Rattle.pb_proof.specs.declared.{conclusion.Bound.Bound, conclusion.Bound.TheVariants.Finite, conclusion.Bound.TheVariants.Infinite, word.PolWord.PolWord}
use Rattle.pb_proof.specs.declared.conclusion.Conclusion.{Conclusion, TheVariants.NoClaim, TheVariants.Unsat, TheVariants.Sat, TheVariants.Bounds}
use Rattle.pb_proof.specs.declared.word.PolWord.TheVariants.{Id, Axiom, Add, Multiply, Divide, Saturate, Weaken}
use Rattle.std.specs.Prelude.{ℕ, ℤ, List, [], ◌∷◌, ◌++◌, Option, Some, None, map, pos}
use Rattle.pb_pieces.specs.declared.tokenized.EventKind.TheVariants as event
use Rattle.pb_pieces.specs.declared.tokens.TokenKind.TheVariants as kind

abbrev pub token_of_id : ℤ → Token
token_of_id id = token kind.Id id None

abbrev pub token_of_word : PolWord → Token
token_of_word (Id id) = token_of_id id
token_of_word (Axiom literal) = token_of_literal literal
token_of_word Add = token kind.Add (pos 0) None
token_of_word (Multiply factor) = token kind.Multiply factor None
token_of_word (Divide divisor) = token kind.Divide divisor None
token_of_word Saturate = token kind.Saturate (pos 0) None
token_of_word (Weaken name) = token kind.Weaken (pos 0) (Some name)

abbrev pub token_of_bound : Bound → Token
token_of_bound (Finite value) = token kind.Bound value None
token_of_bound Infinite = token kind.Infinite (pos 0) None

abbrev pub tokens_of_id : Option ℤ → List Token
tokens_of_id None = []
tokens_of_id (Some id) = token_of_id id ∷ []

abbrev pub tokens_of_solution : Option (List Literal) → List Token
tokens_of_solution None = []
tokens_of_solution (Some literals) = token kind.Solution (pos 0) None ∷ map token_of_literal literals

abbrev pub tokens_of_bounds : Bound → Option ℤ → Bound → List Token
tokens_of_bounds lower id upper = (token_of_bound lower ∷ []) ++ tokens_of_id id ++ token_of_bound upper ∷ []

abbrev pub tokens_of_conclusion : Conclusion → List Token
tokens_of_conclusion NoClaim = []
tokens_of_conclusion (Unsat id) = tokens_of_id id
tokens_of_conclusion (Sat shown) = tokens_of_solution shown
tokens_of_conclusion (Bounds lower id upper shown) = tokens_of_bounds lower id upper ++ tokens_of_solution shown

abbrev pub conclusion_kind : Conclusion → EventKind
conclusion_kind NoClaim = event.NoClaim
conclusion_kind (Unsat id) = event.Unsat
conclusion_kind (Sat shown) = event.Sat
conclusion_kind (Bounds lower id upper shown) = event.Bounds

abbrev pub tokens_of_count : Option ℕ → List Token
tokens_of_count None = []
tokens_of_count (Some n) = token kind.Count (pos n) None ∷ []

abbrev pub kind_in : Statement → EventKind
kind_in Header = event.Proof
kind_in (F count) = event.F
kind_in (Pol words) = event.Pol
kind_in (Rup c) = event.Rup
kind_in (Soli literals) = event.Soli
kind_in (Solx literals) = event.Solx
kind_in (Delete ids) = event.Delete
kind_in Output = event.Output
kind_in (Conclude conclusion) = conclusion_kind conclusion
kind_in End = event.End

abbrev pub tokens_in : Statement → List Token
tokens_in Header = []
tokens_in (F count) = tokens_of_count count
tokens_in (Pol words) = map token_of_word words
tokens_in (Rup c) = tokens_of_linear c
tokens_in (Soli literals) = map token_of_literal literals
tokens_in (Solx literals) = map token_of_literal literals
tokens_in (Delete ids) = map token_of_id ids
tokens_in Output = []
tokens_in (Conclude conclusion) = tokens_of_conclusion conclusion
tokens_in End = []
