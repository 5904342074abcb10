use Rattle.pb_sums.proofs.Common.{◌-◌, ◌≤◌, length, take, Each}
use Rattle.std.specs.Prelude.{◌≢◌}
use Rattle.pb_sums.proofs.capacity.capacity_for.Given as goal

-- no byte so far is a `;`
abbrev pub invariant-loop-chunk : goal.invariant-loop-chunk
invariant-loop-chunk l = record {
  bound : l.searched ≤ length l.text;
  none : Each (λ b. b ≢ 59) (take l.searched l.text);
}

abbrev pub decreases-loop-chunk : goal.decreases-loop-chunk
decreases-loop-chunk l = length l.text - l.searched
