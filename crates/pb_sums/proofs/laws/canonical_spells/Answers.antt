use Rattle.pb_sums.proofs.{Common.arith, lemmas.values.CanonicalLaws.linear-spelled}
use Rattle.pb_sums.proofs.laws.canonical_spells.Goals as goal

pub returns-clause-linear : goal.returns-clause-linear
returns-clause-linear c = λ spaces limit x h i. linear-spelled limit (omega arith) spaces x i
