-- The tokens of a statement in the arrays of a caller.
use Rattle.pb_pieces.specs.{Tokens.Token, Tokens.token, Tokens.token_code, Words.high_word, Words.low_word}
use Rattle.pb_pieces.specs.declared.{given_token.GivenToken.GivenToken, token_arrays.TokenArrays.TokenArrays}
use Rattle.std.specs.Prelude.{◌≡◌, ℕ, ℤ, ◌+◌, ◌-◌, nat_le, List, take, drop, length, Option, Some, None, slice_get, unwrap_or, if◌then◌else◌}

abbrev pub token_in : GivenToken → Token
token_in g = token g.kind g.number g.name

-- the bytes from one offset up to another, if there are such ones
abbrev pub between : List ℕ → ℕ → ℕ → Option (List ℕ)
between bytes first past =
    if nat_le first past then (if nat_le past (length bytes) then Some (take (past - first) (drop first bytes)) else None) else None

abbrev pub between_starts : List ℕ → Option ℕ → ℕ → Option (List ℕ)
between_starts bytes None past = None
between_starts bytes (Some first) past = between bytes first past

-- The name with a number, in the bytes of all names. It begins at its start, and ends where the next name begins. The
-- last one ends with the bytes.
abbrev pub name_at : List ℕ → List ℕ → ℕ → Option (List ℕ)
name_at bytes starts k = between_starts bytes (slice_get starts k) (unwrap_or (slice_get starts (k + 1)) (length bytes))

-- the number stands for this name; without a name it is 0
abbrev pub IsNumberOf : List ℕ → List ℕ → ℕ → Option (List ℕ) → Type 0
IsNumberOf bytes starts k None = k ≡ 0
IsNumberOf bytes starts k (Some name) = name_at bytes starts k ≡ Some name

-- the arrays of a caller: those of the tokens, and those of the names
pub record Arrays : Type 0 where
  pub codes : List ℕ
  pub names : List ℕ
  pub lows : List ℕ
  pub highs : List ℤ
  pub bytes : List ℕ
  pub starts : List ℕ

abbrev pub arrays : List ℕ → List ℕ → List ℕ → List ℤ → List ℕ → List ℕ → Arrays
arrays codes names lows highs bytes starts = record { codes = codes; names = names; lows = lows; highs = highs; bytes = bytes; starts = starts }

abbrev pub arrays_of : TokenArrays → Arrays
arrays_of a = arrays a.codes.now a.names.now a.lows.now a.highs.now a.bytes.now a.starts.now

-- The arrays have this token at the index.
pub record IsGivenAt (a : Arrays) (i : ℕ) (t : Token) : Type 0 where
  pub code : slice_get a.codes i ≡ Some (token_code t.kind)
  pub low : slice_get a.lows i ≡ Some (low_word t.number)
  pub high : slice_get a.highs i ≡ Some (high_word t.number)
  pub number : ℕ
  pub named : slice_get a.names i ≡ Some number
  pub name : IsNumberOf a.bytes a.starts number t.name

-- The arrays have these tokens, and no others.
pub record AreGiven (a : Arrays) (tokens : List Token) : Type 0 where
  pub codes_length : length a.codes ≡ length tokens
  pub names_length : length a.names ≡ length tokens
  pub lows_length : length a.lows ≡ length tokens
  pub highs_length : length a.highs ≡ length tokens
  pub each : (i : ℕ) (t : Token) → slice_get tokens i ≡ Some t → IsGivenAt a i t
