use Rattle.pb_trace.proofs.Common.{Ok, known_by, WritesPieces}
use Rattle.pb_trace.proofs.rejected.write_pieces.Given as goal

-- the parts so far are written
abbrev pub invariant-loop-piece : goal.invariant-loop-piece
invariant-loop-piece g l = WritesPieces g.S.Sink.contents g.S.Sink.faults (known_by l.facts) l.initial.out (Ok tt) l.out
