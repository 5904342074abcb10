use Rattle.pb_replay.proofs.Common.{rules}
use Rattle.pb_replay.proofs.fault.FaultDisplay.fmt.Goals as goal

pub returns-in-NotTotal-clause-writes : goal.returns-in-NotTotal-clause-writes
returns-in-NotTotal-clause-writes g c = search rules
