use Rattle.pb_tool.proofs.Common.{ℕ, ◌+◌, ◌-◌, ◌^◌, ◌≡◌, None, Replaying, fault_of, place_in, Begins, HasRun}
use Rattle.pb_tool.proofs.commands.check.proof.check_statements.Given as goal

-- The statements so far were accepted and shown, and the source has not failed.
abbrev pub invariant-loop-verdict : goal.invariant-loop-verdict
invariant-loop-verdict g l = record {
  running : fault_of l.checker ≡ None;
  faults : g.S.Source.faults l.input ≡ g.S.Source.faults l.fn.input;
  runs : (longest : ℕ) (began : Replaying) → Begins longest began l.fn.checker
      → HasRun longest began g.V.Watch.got (g.S.Source.left l.fn.input) (g.S.Source.history l.fn.input) l.fn.watch l.checker (g.S.Source.left l.input) (g.S.Source.history l.input) l.watch;
}

-- the bytes that may still be read
abbrev pub decreases-loop-verdict : goal.decreases-loop-verdict
decreases-loop-verdict g l = 2 ^ 40 + 1 - (place_in l.checker).offset
