use Rattle.pb_pieces.proofs.Common.{texts_read}
use Rattle.pb_pieces.proofs.session.texts_are_read.Goals as goal

pub returns-clause-read : goal.returns-clause-read
returns-clause-read c = texts_read c.proofs_are_exact.ensures c.standing_is_reading.ensures
