use Rattle.pb_propagate.{proofs.Common.length, specs.engine.engine.Refreshed.IsShortened}
use Rattle.pb_propagate.proofs.engine.root.Root.withdraw.Given as goal

abbrev pub invariant-literals : goal.invariant-literals
invariant-literals l = IsShortened l.store l.initial.self l.self

abbrev pub decreases-literals : goal.decreases-literals
decreases-literals l = length l.self.run.assignment.list.items
