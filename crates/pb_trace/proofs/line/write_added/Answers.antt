use Rattle.pb_trace.proofs.{Storing.added_at, Storing.added_more, Common.arith, Common.refl, Common.part_broke, Common.part_then, Common.part_wrote}
use Rattle.pb_trace.proofs.line.write_added.Goals as goal

pub returns-in_err-write_found : goal.returns-in_err-write_found
returns-in_err-write_found g c =
    part_then g.S.Sink.contents g.S.Sink.faults _ _ _ _ _ _ _
    (added_at c.args.style.ids c.args.style.lines.now c.args.arrow.now c.args.replay.now.names c.args.replay.now.live c.args.newest c.loop-index.index c.loop-index.invariant.2 (omega arith)) c.loop-index.invariant.0
    (part_broke g.S.Sink.contents g.S.Sink.faults _ _ _ _ _ _ refl c.from_residual.ensures.0 (rw c.constraint.ensures at c.in_err-write_found.ensures))

pub loop-index-preserved : goal.loop-index-preserved
loop-index-preserved g c = (
  part_wrote g.S.Sink.contents g.S.Sink.faults _ _ _ _ _ _
      (added_more c.args.style.ids c.args.style.lines.now c.args.arrow.now c.args.replay.now.names c.args.replay.now.live c.args.newest c.loop-index.index c.loop-index.invariant.2) c.loop-index.invariant.0
      (rw c.constraint.ensures at c.in_ok-write_found.ensures),
  omega arith,
  omega arith,
)
