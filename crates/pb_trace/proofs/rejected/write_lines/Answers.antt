use Rattle.pb_trace.proofs.{Common.[], Common.Ok, Common.writes_nothing, Common.known_by, Common.AreReasons, Common.Silence}
use Rattle.pb_trace.proofs.ReasonLines.{reasons_then, some_broke}
use Rattle.pb_trace.proofs.rejected.write_lines.Goals as goal

pub loop-end-init : goal.loop-end-init
loop-end-init g c = ([], Silence, writes_nothing g.S.Sink.contents g.S.Sink.faults _)

pub returns-in_err-write_reason : goal.returns-in_err-write_reason
returns-in_err-write_reason g c =
    reasons_then g.S.Sink.contents g.S.Sink.faults (known_by c.args.facts.now) _ _ _ _ c.loop-end.invariant
    (some_broke g.S.Sink.contents g.S.Sink.faults (AreReasons (known_by c.args.facts.now)) _ _ _ _ c.from_residual.ensures.0 c.in_err-write_reason.ensures)

pub loop-end-preserved : goal.loop-end-preserved
loop-end-preserved g c =
    reasons_then g.S.Sink.contents g.S.Sink.faults (known_by c.args.facts.now) _ _ c.write_reason.new.out (Ok tt) c.loop-end.invariant c.in_ok-write_reason.ensures
