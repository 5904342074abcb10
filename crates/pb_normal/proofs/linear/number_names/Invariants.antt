use Rattle.pb_normal.proofs.Common.{◌≡◌, take, with_names, names_of}
use Rattle.pb_normal.proofs.linear.number_names.Given as goal

-- the names of the terms so far are numbered
abbrev pub invariant-loop-term : goal.invariant-loop-term
invariant-loop-term l = l.names ≡ with_names l.initial.names (names_of (take l.term-index l.terms))
