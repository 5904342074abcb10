use Rattle.pb_propagate.proofs.Common.{ℕ, ◌<◌, get_or, Entry, IsOne}
use Rattle.pb_propagate.proofs.engine.denial.is_disjunction.Given as goal

abbrev pub invariant-entries : goal.invariant-entries
invariant-entries l = (k : ℕ) (d : Entry) → k < l.i → IsOne (get_or l.entries k d)
