use Rattle.pb_normal.proofs.Common.{◌≡◌, length, ends_of, hashes_of, IsChained, nexts_of}
use Rattle.pb_normal.proofs.names.chains.relinked.Given as goal

-- the names so far are linked
abbrev pub invariant-loop-number : goal.invariant-loop-number
invariant-loop-number l = IsChained l.heads.items (hashes_of l.entries) (nexts_of l.entries) l.number × (hashes_of l.entries ≡ hashes_of l.initial.entries) × (ends_of l.entries ≡ ends_of l.initial.entries) × (length l.entries ≡ length l.initial.entries) × (length l.heads.items ≡ l.count)
