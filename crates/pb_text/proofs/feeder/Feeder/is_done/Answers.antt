use Rattle.pb_text.proofs.{Common.bytes, lemmas.feeder.Reported.stands_reads}
use Rattle.pb_text.proofs.feeder.Feeder.is_done.Goals as goal

pub returns-clause-reads : goal.returns-clause-reads
returns-clause-reads g c longest start input spans s = (bytes s.1.letters, stands_reads s.1 c.is_done.result c.is_done.ensures.done)
