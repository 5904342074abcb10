use Rattle.pb_tool.proofs.Common.{ℕ, ◌++◌, ◌+◌, ◌-◌, ◌≡◌, ◌≤◌, length, List, None, Result, take, Fault, IsNamePrefix, Problem, State, Limits}
use Rattle.pb_tool.proofs.Common.{ChecksAt, fault_of, place_in}
use Rattle.pb_tool.proofs.commands.check.checker.Checker.feed.Given as goal

-- the checker was fed all that was consumed of the piece
abbrev pub invariant-loop-went : goal.invariant-loop-went
invariant-loop-went l = record {
  running : fault_of l.self ≡ None;
  bound : l.used ≤ length l.piece;
  offset : (place_in l.self).offset ≡ (place_in l.initial.self).offset + l.used;
  names : IsNamePrefix l.initial.self.replay.names l.self.replay.names;
  stands : (limits : Limits) (longest : ℕ) (v : Problem) (first : Result State Fault) (input : List ℕ) → ChecksAt limits longest v first input l.initial.self → ChecksAt limits longest v first (input ++ take l.used l.piece) l.self;
}

-- the bytes that are left of the piece
abbrev pub decreases-loop-went : goal.decreases-loop-went
decreases-loop-went l = length l.piece - l.used
