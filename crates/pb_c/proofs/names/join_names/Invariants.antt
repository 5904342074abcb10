use Rattle.pb_c.proofs.Common.{ℕ, ◌<◌, ◌≡◌, get_or, length, take, joined}
use Rattle.pb_c.proofs.names.join_names.Given as goal

abbrev pub invariant-names : goal.invariant-names
invariant-names l = record {
  past : l.past ≡ length (joined (take l.number l.names));
  bytes : take l.past l.bytes ≡ joined (take l.number l.names);
  starts : (k : ℕ) → k < l.number → get_or l.starts k 0 ≡ length (joined (take k l.names));
}
