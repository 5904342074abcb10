use Rattle.pb_proof.proofs.{Common.begin, Common.proofs, lemmas.machine.Exact.reads_proofs}
use Rattle.pb_text.proofs.lemmas.text.FixedSpans as spans
use Rattle.pb_proof.proofs.laws.fixed_spans.Goals as goal

pub returns : goal.returns
returns c = λ limit top prefix items items' h k. spans.fixed_spans proofs (begin limit top) prefix items items' ((reads_proofs limit top items).1 h) ((reads_proofs limit top items').1 k)
