use Rattle.pb_trace.proofs.Common.{option_copied, Keeps}
use Rattle.pb_trace.proofs.propagation.Propagation.follow.Given as goal

abbrev pub invariant-loop-next : goal.invariant-loop-next
invariant-loop-next l = Keeps (option_copied l.base.negation) l.base.constraints.now l.base.over l.initial.self l.self
