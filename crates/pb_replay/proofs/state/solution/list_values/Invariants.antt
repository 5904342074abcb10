use Rattle.pb_replay.proofs.Common.{ℕ, ◌<◌, ◌≡◌, false, get_or, length, None, Some}
use Rattle.pb_replay.proofs.state.solution.list_values.Given as goal

-- each name so far has its value
abbrev pub invariant-loop-number : goal.invariant-loop-number
invariant-loop-number l = (length l.values.items ≡ l.number) × ((k : ℕ) → k < l.number → get_or l.given k None ≡ Some (get_or l.values.items k false))
