use Rattle.pb_replay.proofs.Common.{◌≡◌, ◌≤◌, take, unsigned_abs, assignment, magnitude, true_sum, by_name}
use Rattle.pb_replay.proofs.state.solution.value_of.Given as goal

-- the sum of the terms so far
abbrev pub invariant-loop-term : goal.invariant-loop-term
invariant-loop-term l = (l.sum ≡ true_sum (by_name l.names (assignment l.values)) (take l.term-index l.terms)) × (unsigned_abs l.sum ≤ magnitude (take l.term-index l.terms))
