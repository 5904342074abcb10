use Rattle.pb_text.proofs.Common.{◌≡◌, ◌≢◌, false, take, Each}
use Rattle.pb_text.proofs.place.has_line_feed_in.Given as goal

-- no byte so far is a line feed, if none was found
abbrev pub invariant-loop-byte : goal.invariant-loop-byte
invariant-loop-byte l = l.found ≡ false → Each (λ b. b ≢ 10) (take l.byte-index l.text)
