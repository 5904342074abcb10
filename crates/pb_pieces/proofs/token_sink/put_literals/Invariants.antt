use Rattle.pb_pieces.proofs.Common.{◌++◌, List, map, take, token_of_literal, Token}
use Rattle.pb_pieces.proofs.token_sink.put_literals.Given as goal

-- The first literals were put.
abbrev pub invariant-loop-literal : goal.invariant-loop-literal
invariant-loop-literal g l =
    (start : _) (before : List Token) → g.T.TokenSink.took start before l.fn.into
    → g.T.TokenSink.took start (before ++ map token_of_literal (take l.literal-index l.fn.literals)) l.into
