use Rattle.pb_trace.proofs.Common.{◌++◌, ◌-◌, ◌≡◌, ◌≤◌, drop, length, take, live_in}
use Rattle.pb_trace.proofs.stored.Constraints.extend.Given as goal

-- the newer constraints so far are stored
abbrev pub invariant-loop-index : goal.invariant-loop-index
invariant-loop-index l =
    let n = length l.initial.self.forms.items in
    (live_in l.self.forms.items ≡ live_in l.initial.self.forms.items ++ take (l.index - n) (drop n l.replay.live)) × (l.index - n ≤ length l.replay.live - n) × (n ≤ l.index)
