-- The offset where the next byte is past the limit, and what was spent on a statement.
use Rattle.pb_text.specs.{declared.place.Place.Place, meaning.Reading.byte_limit}
use Rattle.std.specs.Prelude.{◌≡◌, ℕ, ◌+◌, ◌≤◌, min, Option, None, Some}

-- the offset of the first byte past the limit on all bytes, or on those of the statement that began at first
abbrev pub end_of : ℕ → Option Place → ℕ
end_of longest None = byte_limit
end_of longest (Some first) = min byte_limit (first.offset + longest)

-- after n bytes, at most one was spent for each byte of the statement that began at first, and else none
abbrev pub SpentSince : ℕ → Option Place → ℕ → Type 0
SpentSince n None spent = spent ≡ 0
SpentSince n (Some first) spent = first.offset + spent ≤ n
