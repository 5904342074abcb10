use Rattle.pb_c.proofs.Common.{rules}
use Rattle.pb_c.proofs.answer.write_end.Goals as goal

pub returns-in-Ok : goal.returns-in-Ok
returns-in-Ok c = search rules

pub returns-in-Err : goal.returns-in-Err
returns-in-Err c = search rules
