use Rattle.pb_pieces.proofs.Common.{◌++◌, List, map, take, token_of_term, Token}
use Rattle.pb_pieces.proofs.token_sink.put_terms.Given as goal

-- The first terms were put.
abbrev pub invariant-loop-term : goal.invariant-loop-term
invariant-loop-term g l =
    (start : _) (before : List Token) → g.T.TokenSink.took start before l.fn.into
    → g.T.TokenSink.took start (before ++ map token_of_term (take l.term-index l.fn.terms)) l.into
