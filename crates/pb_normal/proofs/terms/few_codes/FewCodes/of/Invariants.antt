use Rattle.pb_normal.proofs.Common.{◌≡◌, length, map, take, decoded}
use Rattle.pb_normal.proofs.terms.few_codes.FewCodes.of.Given as goal

-- the terms so far are stored
abbrev pub invariant-terms : goal.invariant-terms
invariant-terms l = (length l.codes ≡ 4) × (map decoded (take l.i l.codes) ≡ take l.i l.terms)
