use Rattle.pb_pieces.proofs.Common.{◌++◌, List, take, Term, HoldNamed}
use Rattle.pb_pieces.proofs.flat.Named.extend.Given as goal

-- The first terms of the list were added.
abbrev pub invariant-loop-term : goal.invariant-loop-term
invariant-loop-term l = (terms : List Term) → HoldNamed terms l.fn.self → HoldNamed (terms ++ take l.term-index l.items) l.self
