use Rattle.pb_trace.proofs.Common.{◌+◌, ◌≡◌, drop, total, free_by}
use Rattle.pb_trace.proofs.propagation.Propagation.open_sum.Given as goal

abbrev pub invariant-terms : goal.invariant-terms
invariant-terms l = l.sum + total (free_by l.self.values.items) (drop l.i l.terms) ≡ total (free_by l.self.values.items) l.terms
