use Rattle.pb_tool.proofs.commands.show.read_blank_rest.Goals as goal

pub returns-in-Err-clause-ends : goal.returns-in-Err-clause-ends
returns-in-Err-clause-ends g c = rw c.text_fault.ensures c.in-Err.ensures.blank

pub returns-in-Err-clause-faults : goal.returns-in-Err-clause-faults
returns-in-Err-clause-faults g c = rw c.text_fault.ensures c.in-Err.ensures.faults

pub returns-in-Err-clause-given : goal.returns-in-Err-clause-given
returns-in-Err-clause-given g c = rw c.text_fault.ensures c.in-Err.ensures.given

pub returns-in-Ok-clause-given : goal.returns-in-Ok-clause-given
returns-in-Ok-clause-given g c = c.in-Ok.ensures.given
