use Rattle.pb_replay.proofs.Common.{ℕ, ◌<◌, ◌≡◌, get_or, None, Some, Form, IsContradiction}
use Rattle.pb_replay.proofs.step.contradiction.some_contradiction.Given as goal

-- no form so far is a contradiction
abbrev pub invariant-loop-number : goal.invariant-loop-number
invariant-loop-number l = (k : ℕ) (f : Form) → k < l.number → get_or l.constraints.forms k None ≡ Some f → IsContradiction f → ⊥
