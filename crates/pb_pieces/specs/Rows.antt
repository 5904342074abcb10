-- The objective and the constraints of an instance in arrays.
use Rattle.pb_pieces.specs.{Words.high_word, Words.low_word, declared.rows.Row.Row, declared.rows.Rows.Rows}
use Rattle.std.specs.Prelude.{◌≡◌, List, map}

-- the arrays have these rows
pub record HoldRows (rows : List Row) (r : Rows) : Type 0 where
  pub kinds : r.kinds.items ≡ map (λ x. x.kind) rows
  pub ends : r.ends.items ≡ map (λ x. x.end) rows
  pub lows : r.lows.items ≡ map (λ x. low_word x.degree) rows
  pub highs : r.highs.items ≡ map (λ x. high_word x.degree) rows
