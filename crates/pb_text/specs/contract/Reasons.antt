-- The text of a position and of a stop.
use Rattle.pb_text.specs.declared.place.{Place.Place, Stop.Stop, Why.Why}
use Rattle.std.specs.Prelude.{ℕ, ◌/◌, ◌%◌, List, [], ◌∷◌, ◌++◌, codes, decimal, slice_index}
use Rattle.pb_text.specs.declared.place.Why.TheVariants as why

-- a position, through its colon and space
abbrev pub place_text : Place → List ℕ
place_text place = codes "line " ++ decimal place.line ++ codes " column " ++ decimal place.column ++ codes ": "

-- two hexadecimal digits, in lower case
abbrev pub hex_digit : ℕ → ℕ
hex_digit n = slice_index (codes "0123456789abcdef") n

abbrev pub hex_of : ℕ → List ℕ
hex_of byte = hex_digit (byte / 16) ∷ hex_digit (byte % 16) ∷ []

-- why a reader stopped
abbrev pub reason_of : Why → List ℕ
reason_of (why.Byte byte) = codes "byte 0x" ++ hex_of byte
reason_of why.TooLarge = codes "number too large"
reason_of why.Ended = codes "input ended"
reason_of why.TooLong = codes "input too long"
reason_of why.Read = codes "read fault"
reason_of why.Memory = codes "out of memory"

-- where and why
abbrev pub stop_text : Stop → List ℕ
stop_text stop = place_text stop.place ++ reason_of stop.why
