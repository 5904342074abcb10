use Rattle.pb_normal.proofs.Common.{◌≡◌, ◌++◌, map, take}
use Rattle.pb_normal.proofs.terms.code.append_decoded.Given as goal

-- the terms so far are appended
abbrev pub invariant-codes : goal.invariant-codes
invariant-codes g l = l.out.items ≡ l.initial.out.items ++ map g.T.Coded.term (take l.i l.codes)
