use Rattle.pb_trace.proofs.Common.{◌+◌, ◌≡◌, List, Option, Form, total, opened, free_by, IsSound, literals, Names, Forced, Over, Stored}
use Rattle.pb_trace.proofs.propagation.Propagation.force_all.Given as goal

-- the literals so far follow, and the slack stays
abbrev pub invariant-terms : goal.invariant-terms
invariant-terms l =
    (negation : Option Form) (stored : List Stored) (over : Over) (given : List Forced) → Names negation stored over l.reason l.form
    → total (free_by l.initial.self.values.items) l.form.terms ≡ l.form.degree + l.slack → IsSound negation stored over given l.initial.self
    → IsSound negation stored over given l.self × (total (opened (literals l.self.forced.items)) l.form.terms ≡ l.form.degree + l.slack)
