use Rattle.pb_text.proofs.Common.{◌-◌, ◌≤◌, ◌≢◌, length, take, Each}
use Rattle.pb_text.proofs.place.has_line_feed.Given as goal

-- no byte so far is a line feed
abbrev pub invariant-loop-chunk : goal.invariant-loop-chunk
invariant-loop-chunk l = record {
  bound : l.searched ≤ length l.text;
  none : Each (λ b. b ≢ 10) (take l.searched l.text);
}

abbrev pub decreases-loop-chunk : goal.decreases-loop-chunk
decreases-loop-chunk l = length l.text - l.searched
