use Rattle.pb_pieces.proofs.Common.{ℕ, ◌≡◌, length, map, Some, slice_get, arrays_of, IsGivenAt, token_in, Token}
use Rattle.pb_pieces.proofs.token_arrays.tokens_given.Given as goal

-- The first tokens were taken.
abbrev pub invariant-tokens : goal.invariant-tokens
invariant-tokens l =
    (length l.tokens.items ≡ l.index)
    × ((i : ℕ) (t : Token) → slice_get (map token_in l.tokens.items) i ≡ Some t
    → IsGivenAt (arrays_of l.fn.arrays) i t)
