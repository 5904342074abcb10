-- A statement as it is given to programs in other languages.
use Rattle.pb_pieces.specs.{Tokens.Token, declared.tokenized.EventKind.EventKind, declared.tokenized.Tokenized.Ghosts as Statements}
use Rattle.{pb_text.specs.declared.place.Place.Place, pb_text.specs.declared.place.Spanned.Spanned, std.specs.Prelude.ℕ, std.specs.Prelude.List}

-- what a statement is, its tokens and its free text, where it begins, and the position past it
pub record Given : Type 0 where
  pub kind : EventKind
  pub tokens : List Token
  pub text : List ℕ
  pub first : Place
  pub past : Place

abbrev pub given : {E : Type 0} → Statements E → Spanned E → Given
given t m = record { kind = t.sort m.event; tokens = t.tokens m.event; text = t.text m.event; first = m.first; past = m.past }
