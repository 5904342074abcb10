use Rattle.pb_pieces.proofs.Common.{◌++◌, List, map, take, token_of_id, Token}
use Rattle.pb_pieces.proofs.proof_tokens.put_ids.Given as goal

-- The first ids were put.
abbrev pub invariant-loop-id : goal.invariant-loop-id
invariant-loop-id g l =
    (start : _) (before : List Token) → g.T.TokenSink.took start before l.fn.into
    → g.T.TokenSink.took start (before ++ map token_of_id (take l.id-index l.fn.ids)) l.into
