use Rattle.pb_proof.proofs.{Common.prefix_free, Common.begin, Common.proofs, lemmas.machine.Exact.reads_proofs, lemmas.machine.Exact.finishes}
use Rattle.pb_proof.proofs.laws.prefix_free.Goals as goal

pub returns : goal.returns
returns c = λ limit top items items' more h k. prefix_free proofs finishes (begin limit top) items items' more ((reads_proofs limit top items).1 h) ((reads_proofs limit top items').1 k)
