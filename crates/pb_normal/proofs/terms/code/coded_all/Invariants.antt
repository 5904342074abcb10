use Rattle.pb_normal.proofs.Common.{◌≡◌, map, take}
use Rattle.pb_normal.proofs.terms.code.coded_all.Given as goal

-- the terms so far are stored
abbrev pub invariant-terms : goal.invariant-terms
invariant-terms g l = map g.T.Coded.term l.codes.items ≡ take l.i l.terms
