-- The terms of an instance in arrays.
use Rattle.{pb_pieces.specs.Words.high_word, pb_pieces.specs.Words.low_word, pb_pieces.specs.declared.terms.Terms.Terms, pb_sums.specs.declared.Term.Term}
use Rattle.std.specs.Prelude.{◌≡◌, ℕ, Bool, true, false, List, map}

abbrev pub bit : Bool → ℕ
bit true = 1
bit false = 0

-- the arrays have these terms, with these numbers of their names
pub record HoldTerms (terms : List Term) (numbers : List ℕ) (t : Terms) : Type 0 where
  pub numbered : t.numbers.items ≡ numbers
  pub negated : t.negated.items ≡ map (λ x. bit x.literal.negated) terms
  pub lows : t.lows.items ≡ map (λ x. low_word x.coefficient) terms
  pub highs : t.highs.items ≡ map (λ x. high_word x.coefficient) terms
