use Rattle.pb_tool.proofs.Common.{take, flat_map, Wrote}
use Rattle.pb_tool.proofs.fault.write_parts.Given as goal

-- the texts so far were written
abbrev pub invariant-loop-part : goal.invariant-loop-part
invariant-loop-part g l = Wrote g.S.Sink.contents g.S.Sink.faults l.fn.out (flat_map (λ part. part.now) (take l.part-index l.parts)) l.out
