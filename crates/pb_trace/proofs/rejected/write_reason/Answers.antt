use Rattle.pb_trace.proofs.{Common.known_by, ReasonLines.line_cut, ReasonLines.line_end, ReasonLines.pieces_cut}
use Rattle.pb_trace.proofs.rejected.write_reason.Goals as goal

pub returns-in_err-write_bytes : goal.returns-in_err-write_bytes
returns-in_err-write_bytes g c =
    line_cut g.S.Sink.contents g.S.Sink.faults (known_by c.args.facts.now) _ _ _ _ c.from_residual.ensures.0 c.in_err-write_bytes.ensures

pub returns-in_err-write_pieces : goal.returns-in_err-write_pieces
returns-in_err-write_pieces g c =
    pieces_cut g.S.Sink.contents g.S.Sink.faults (known_by c.args.facts.now) _ _ _ _ _ c.from_residual-in_err-write_pieces.ensures.0 c.in_ok-write_bytes.ensures c.in_err-write_pieces.ensures

pub returns : goal.returns
returns g c =
    line_end g.S.Sink.contents g.S.Sink.faults (known_by c.args.facts.now) _ _ _ _ _ c.in_ok-write_bytes.ensures c.in_ok-write_pieces.ensures c.write_bytes-2.ensures
