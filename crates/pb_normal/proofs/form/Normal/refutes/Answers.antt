use Rattle.pb_normal.proofs.{Common.arith, Common.tests, lemmas.rules.Bounds.SumIsContradiction-measured}
use Rattle.pb_normal.proofs.form.Normal.refutes.Goals as goal

pub returns : goal.returns
returns c = grind (arith, tests, SumIsContradiction-measured _ _ _ _ c.measures_of_sum-size.ensures)
