use Rattle.pb_trace.proofs.Common.{ℕ, ◌≡◌, get_or, None}
use Rattle.pb_trace.proofs.propagation.Propagation.new.Given as goal

-- the variables so far have no value
abbrev pub invariant-loop : goal.invariant-loop
invariant-loop l = (v : ℕ) → get_or l.values.items v None ≡ None
