use Rattle.pb_proof.proofs.Common.{take, Wrote, ended_lines}
use Rattle.pb_proof.proofs.write.write_steps.Given as goal

abbrev pub invariant-loop-step : goal.invariant-loop-step
invariant-loop-step g l = Wrote g.S.Sink.contents g.S.Sink.faults l.initial.out (ended_lines (take l.step-index l.steps)) l.out
