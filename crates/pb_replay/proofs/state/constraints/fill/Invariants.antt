use Rattle.pb_replay.proofs.Common.{map, Some, Option, Form}
use Rattle.pb_replay.specs.engine.Constraints.{HasFilled}
use Rattle.pb_replay.proofs.state.constraints.fill.Given as goal

-- the forms so far were added
abbrev pub invariant-loop-form : goal.invariant-loop-form
invariant-loop-form l = HasFilled (map (λ (f : Form). let o : Option Form = Some f in o) l.yielded) l.fn.engine.variables l.engine
