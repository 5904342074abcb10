use Rattle.pb_trace.proofs.Common.{◌∙◌, ap, Err, err_from_is_err_and, rejected_line}
use Rattle.pb_trace.proofs.ReasonLines.{after_start, start_broke}
use Rattle.pb_trace.proofs.trace.Trace.write_wrong.Goals as goal

pub returns-in_err-write_rejected_line-clause-text : goal.returns-in_err-write_rejected_line-clause-text
returns-in_err-write_rejected_line-clause-text g c =
    let p = err_from_is_err_and c.from_residual.result c.from_residual.ensures.1 in
    rw (← c.self.view_is) (start_broke g.S.Sink.contents g.S.Sink.faults _ (rejected_line c.args.read.now) _ _
    c.from_residual.result (p.1 ∙ ap Err p.2) c.in_err-write_rejected_line.ensures)

pub returns-clause-text : goal.returns-clause-text
returns-clause-text g c =
    rw (← c.self.view_is) (after_start g.S.Sink.contents g.S.Sink.faults _ (rejected_line c.args.read.now) _ _ _
    c.write_why.result c.in_ok-write_rejected_line.ensures c.write_why.ensures.text)
