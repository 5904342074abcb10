use Rattle.pb_replay.proofs.Common.{ℕ, ◌<◌, get_or, Holds, assignment, no_form}
use Rattle.pb_replay.proofs.state.solution.all_hold.Given as goal

-- the forms so far hold
abbrev pub invariant-loop-at : goal.invariant-loop-at
invariant-loop-at l = (k : ℕ) → k < l.at → Holds (assignment l.values) (get_or l.constraints.loaded k no_form)
