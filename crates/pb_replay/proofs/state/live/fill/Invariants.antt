use Rattle.pb_replay.proofs.Common.{map, Some, take, Option, Form, AreLive}
use Rattle.pb_replay.proofs.state.live.fill.Given as goal

-- the constraints so far were added
abbrev pub invariant-loop-at : goal.invariant-loop-at
invariant-loop-at l = AreLive (map (λ (f : Form). let o : Option Form = Some f in o) (take l.at l.constraints.loaded)) l.fn.copies.variables l.copies
