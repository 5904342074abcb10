use Rattle.pb_pieces.proofs.token_reader.TokenReader.finish.Goals as goal

pub returns-in-Ok-clause-ends : goal.returns-in-Ok-clause-ends
returns-in-Ok-clause-ends g c longest start fed spans running reading =
    (rw c.in-Ok.is at c.finish.ensures).ends longest start fed spans reading.running reading.stands

pub returns-in-Err-clause-ends : goal.returns-in-Err-clause-ends
returns-in-Err-clause-ends g c longest start fed spans running reading =
    (rw c.in-Err.is at c.finish.ensures).ends longest start fed spans reading.running reading.stands
