use Rattle.pb_normal.proofs.Common.{ℕ, ◌≡◌, ◌<◌, get_or, length, Entry}
use Rattle.pb_normal.proofs.terms.Terms.is_same.Given as goal

-- the lengths are the same, and so are the terms so far
abbrev pub invariant-terms : goal.invariant-terms
invariant-terms l = (length l.self ≡ length l.other) × ((k : ℕ) (d : Entry) → k < l.i → get_or l.self k d ≡ get_or l.other k d)
