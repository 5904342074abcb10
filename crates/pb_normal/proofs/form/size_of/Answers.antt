use Rattle.pb_normal.proofs.{Common.refl, lemmas.terms.Totals.total-decoded}
use Rattle.pb_normal.proofs.form.size_of.Goals as goal

pub returns-in-Codes : goal.returns-in-Codes
returns-in-Codes c = rw (← c.reading.ensures.same, c.in-Codes.is, total-decoded c.in-Codes.codes.now) refl
