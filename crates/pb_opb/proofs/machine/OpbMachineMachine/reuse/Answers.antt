use Rattle.std.proofs.Common.{rules}
use Rattle.pb_opb.proofs.machine.OpbMachineMachine.reuse.Goals as goal

pub returns-in-Constraint : goal.returns-in-Constraint
returns-in-Constraint c = search rules
