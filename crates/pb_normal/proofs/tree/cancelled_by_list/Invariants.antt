use Rattle.pb_normal.proofs.{Common.take, lemmas.terms.KeyedTerms.AllCancel}
use Rattle.pb_normal.proofs.tree.cancelled_by_list.Given as goal

-- the terms so far are counted
abbrev pub invariant-terms : goal.invariant-terms
invariant-terms l = AllCancel l.terms (take l.i l.list) l.cancelled
