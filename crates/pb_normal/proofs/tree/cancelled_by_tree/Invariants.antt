use Rattle.pb_normal.proofs.{Common.◌++◌, Common.◌≡◌, Common.List, Common.values, Common.Entry, lemmas.terms.KeyedTerms.AllCancel}
use Rattle.pb_normal.proofs.tree.cancelled_by_tree.Given as goal

-- the terms so far are counted, and the others follow
abbrev pub invariant-loop-term : goal.invariant-loop-term
invariant-loop-term l = (done : List Entry) × (values l.others ≡ done ++ l.term-iterator) × AllCancel l.terms done l.cancelled
