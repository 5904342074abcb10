-- The positions of statements in arrays.
use Rattle.pb_pieces.specs.declared.places.{Places.Places, Span.Span}
use Rattle.std.specs.Prelude.{◌≡◌, List, map}

-- the arrays have these positions
pub record HoldPlaces (spans : List Span) (p : Places) : Type 0 where
  pub lines : p.lines.items ≡ map (λ x. x.first.line) spans
  pub columns : p.columns.items ≡ map (λ x. x.first.column) spans
  pub firsts : p.firsts.items ≡ map (λ x. x.first.offset) spans
  pub pasts : p.pasts.items ≡ map (λ x. x.past.offset) spans
