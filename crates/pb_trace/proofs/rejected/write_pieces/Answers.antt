use Rattle.pb_trace.proofs.{Common.[], Common.Ok, Common.writes_nothing, Common.known_by, Common.ArePieces, Common.Nothing}
use Rattle.pb_trace.proofs.ReasonLines.{pieces_then, some_broke}
use Rattle.pb_trace.proofs.rejected.write_pieces.Goals as goal

pub loop-piece-init : goal.loop-piece-init
loop-piece-init g c = ([], Nothing, writes_nothing g.S.Sink.contents g.S.Sink.faults _)

pub returns-in_err-write_piece : goal.returns-in_err-write_piece
returns-in_err-write_piece g c =
    pieces_then g.S.Sink.contents g.S.Sink.faults (known_by c.args.facts.now) _ _ _ _ c.loop-piece.invariant
    (some_broke g.S.Sink.contents g.S.Sink.faults (ArePieces (known_by c.args.facts.now)) _ _ _ _ c.from_residual.ensures.0 c.in_err-write_piece.ensures)

pub loop-piece-preserved : goal.loop-piece-preserved
loop-piece-preserved g c =
    pieces_then g.S.Sink.contents g.S.Sink.faults (known_by c.args.facts.now) _ _ c.write_piece.new.out (Ok tt) c.loop-piece.invariant c.in_ok-write_piece.ensures
