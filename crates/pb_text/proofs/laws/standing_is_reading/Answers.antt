use Rattle.pb_text.proofs.{Common.refl, Common.is_complete, Common.bytes, lemmas.feeder.Reported.stands_reads}
use Rattle.pb_text.proofs.laws.standing_is_reading.Goals as goal

pub returns : goal.returns
returns g c longest start input spans f s = (bytes s.1.letters, stands_reads s.1 (is_complete f) refl)
