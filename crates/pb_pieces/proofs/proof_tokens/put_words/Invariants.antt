use Rattle.pb_pieces.proofs.Common.{◌++◌, List, map, take, token_of_word, Token}
use Rattle.pb_pieces.proofs.proof_tokens.put_words.Given as goal

-- The first words were put.
abbrev pub invariant-loop-word : goal.invariant-loop-word
invariant-loop-word g l =
    (start : _) (before : List Token) → g.T.TokenSink.took start before l.fn.into
    → g.T.TokenSink.took start (before ++ map token_of_word (take l.word-index l.fn.words)) l.into
