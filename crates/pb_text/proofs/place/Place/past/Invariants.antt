use Rattle.pb_text.proofs.Common.{◌≡◌, take, place_past}
use Rattle.pb_text.proofs.place.Place.past.Given as goal

-- the position after the bytes so far
abbrev pub invariant-loop-byte : goal.invariant-loop-byte
invariant-loop-byte l = l.place ≡ place_past l.initial.place (take l.byte-index l.text)
