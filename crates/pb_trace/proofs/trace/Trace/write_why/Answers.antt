use Rattle.pb_trace.proofs.Common.{◌∙◌, ap, Err, length, refl, err_from_is_err_and}
use Rattle.pb_trace.proofs.ReasonLines.{all_reasons, reasons_cut, why_of}
use Rattle.pb_trace.proofs.trace.Trace.write_why.Goals as goal

pub returns-in_err-write_reasons-clause-text : goal.returns-in_err-write_reasons-clause-text
returns-in_err-write_reasons-clause-text g c =
    let p = err_from_is_err_and c.from_residual-in_err-write_reasons.result c.from_residual-in_err-write_reasons.ensures.1 in
    rw (← c.self.view_is) (reasons_cut g.S.Sink.contents g.S.Sink.faults _ _ _ _ c.from_residual-in_err-write_reasons.result _ (p.1 ∙ ap Err p.2)
    (why_of _ c.in_ok-known.known c.self.inside.constraints c.all.result.now (length c.loaded.result.now) c.as_slice.result.now c.words_in.result.now
    c.in_ok-reasons.reasons c.all.ensures refl c.as_slice.ensures.value c.words_in.ensures c.in_ok-known.ensures.limits c.in_ok-known.ensures.names
    c.in_ok-known.ensures.constraints c.in_ok-reasons.ensures)
    c.in_err-write_reasons.ensures)

pub returns-clause-text : goal.returns-clause-text
returns-clause-text g c =
    rw (← c.self.view_is) (all_reasons g.S.Sink.contents g.S.Sink.faults _ _ _ _
    (why_of _ c.in_ok-known.known c.self.inside.constraints c.all.result.now (length c.loaded.result.now) c.as_slice.result.now c.words_in.result.now
    c.in_ok-reasons.reasons c.all.ensures refl c.as_slice.ensures.value c.words_in.ensures c.in_ok-known.ensures.limits c.in_ok-known.ensures.names
    c.in_ok-known.ensures.constraints c.in_ok-reasons.ensures)
    c.in_ok-write_reasons.ensures)
