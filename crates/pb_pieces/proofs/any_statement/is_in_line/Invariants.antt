use Rattle.pb_pieces.proofs.Common.{take, IsInLine}
use Rattle.pb_pieces.proofs.any_statement.is_in_line.Given as goal

abbrev pub invariant-loop-byte : goal.invariant-loop-byte
invariant-loop-byte l = IsInLine (take l.byte-index l.bytes)
