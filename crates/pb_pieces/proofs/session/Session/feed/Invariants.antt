use Rattle.pb_pieces.proofs.Common.{ℕ, ◌++◌, ◌+◌, ◌-◌, ◌≡◌, ◌≤◌, length, List, None, take, Limits, place_in, IsSession}
use Rattle.pb_pieces.proofs.session.Session.feed.Given as goal

-- the session was fed all that was taken of the piece
abbrev pub invariant-loop-went : goal.invariant-loop-went
invariant-loop-went l = record {
  running : l.self.fault ≡ None;
  bound : l.used ≤ length l.piece;
  offset : (place_in l.self.checker).offset ≡ (place_in l.initial.self.checker).offset + l.used;
  stands : (limits : Limits) (longest : ℕ) (i fed : List ℕ) → IsSession limits longest i fed l.initial.self → IsSession limits longest i (fed ++ take l.used l.piece) l.self;
}

-- the bytes that are left of the piece
abbrev pub decreases-loop-went : goal.decreases-loop-went
decreases-loop-went l = length l.piece - l.used
