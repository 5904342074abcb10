use Rattle.pb_trace.proofs.Common.{option_copied, Keeps}
use Rattle.pb_trace.proofs.propagation.Propagation.visit_from.Given as goal

abbrev pub invariant-loop : goal.invariant-loop
invariant-loop l = Keeps (option_copied l.base.negation) l.base.constraints.now l.base.over l.initial.self l.self
