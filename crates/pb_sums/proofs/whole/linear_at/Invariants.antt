use Rattle.pb_sums.proofs.Common.{◌-◌, ◌≡◌, ◌≤◌, length, take, true, AreSpacedTerms, begins_term}
use Rattle.pb_sums.proofs.whole.linear_at.Given as goal

-- the bytes so far lead to this state
abbrev pub invariant-loop-length : goal.invariant-loop-length
invariant-loop-length l = record {
  bound : l.head ≤ length l.text;
  begins : begins_term l.phase ≡ true;
  runs : AreSpacedTerms l.limit (take l.head l.text) l.terms l.phase;
}

abbrev pub decreases-loop-length : goal.decreases-loop-length
decreases-loop-length l = length l.text - l.head
