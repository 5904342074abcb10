use Rattle.pb_trace.proofs.Common.{option_copied, Keeps}
use Rattle.pb_trace.proofs.propagation.Propagation.propagate.Given as goal

abbrev pub invariant-loop-index : goal.invariant-loop-index
invariant-loop-index l = Keeps (option_copied l.base.negation) l.base.constraints.now l.base.over l.fn.self l.self
