-- What a `NameHasher` computes. No result depends on it.
use Rattle.std.specs.Prelude.{ℕ, zero, suc, ◌+◌, ◌-◌, ◌*◌, ◌/◌, ◌%◌, ◌^◌, [], ◌∷◌, List, length, take, drop, if◌then◌else◌, nat_le, nat_lt, slice_index, bit_or, bit_xor}
use Rattle.std.specs.Hash.DefaultHasher as sip
use Rattle.pb_normal.specs.declared.names.hasher.NameHasher.{NameHasher}
use Rattle.std.specs.{Int.from_le_bytes, Int.w32, Int.w64, declared.hash.DefaultHasher.DefaultHasher, Hash.FoldHasher.folded_multiply, Hash.FoldHasher.shl}

-- its two secret words are what the SipHash answers at once, and after the byte 1
unfoldable pub keyed : DefaultHasher → NameHasher
keyed s = record { state = sip.finish s; key = sip.finish (sip.write s (1 ∷ [])) }

-- the four bytes from a position on as a number, the lowest first
abbrev pub half_word_at : List ℕ → ℕ → ℕ
half_word_at bs at = from_le_bytes w32 (take 4 (drop at bs))

-- the eight bytes from a position on
abbrev pub word_at : List ℕ → ℕ → ℕ
word_at bs at = from_le_bytes w64 (take 8 (drop at bs))

-- the state after two words that stand in a block
abbrev pub mix : ℕ → ℕ → ℕ → ℕ → ℕ
mix key state first last = folded_multiply (bit_xor first state) (bit_xor last key)

-- the state after the first n blocks of 16 bytes
unfoldable pub mixed : List ℕ → ℕ → ℕ → ℕ → ℕ
mixed bs key state zero = state
mixed bs key state (suc n) = mix key (mixed bs key state n) (word_at bs (16 * n)) (word_at bs (16 * n + 8))

-- two words that have the last 16 bytes, or all bytes if there are fewer
unfoldable pub ends_of : List ℕ → ℕ × ℕ
ends_of bs =
    let n = length bs in
    if nat_le 8 n then (word_at bs (n - 16), word_at bs (n - 8))
    else (if nat_le 4 n then (half_word_at bs 0, half_word_at bs (n - 4))
    else (if nat_lt 0 n then (bit_or (slice_index bs 0) (shl (slice_index bs (n / 2)) 8), slice_index bs (n - 1)) else (0, 0)))

-- the state after `write(bs)`: the length is added to it, as words of names of different lengths may be the same
unfoldable pub write : NameHasher → List ℕ → NameHasher
write h bs =
    let n = length bs in
    let ends = ends_of bs in
    record { state = (mix h.key (mixed bs h.key h.state ((n - 1) / 16)) ends.0 ends.1 + n) % 2 ^ 64; key = h.key }

-- what `finish` returns
abbrev pub finish : NameHasher → ℕ
finish h = folded_multiply h.state h.key
