use Rattle.pb_normal.proofs.Common.{ℕ, ◌<◌, get_or, Entry}
use Rattle.pb_normal.proofs.terms.code.can_store_all.Given as goal

-- the terms so far can be stored so
abbrev pub invariant-terms : goal.invariant-terms
invariant-terms g l = (k : ℕ) (d : Entry) → k < l.i → g.T.Coded.fits (get_or l.terms k d)
