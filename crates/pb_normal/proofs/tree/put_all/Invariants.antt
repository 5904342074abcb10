use Rattle.pb_normal.proofs.Common.{take, values, Adds, IsKeyed, IsRising}
use Rattle.pb_normal.proofs.tree.put_all.Given as goal

-- the terms so far are added
abbrev pub invariant-terms : goal.invariant-terms
invariant-terms l = IsKeyed l.terms × IsRising 0 (values l.terms) × Adds (values l.initial.terms) (take l.i l.list) (values l.terms) l.cancelled
