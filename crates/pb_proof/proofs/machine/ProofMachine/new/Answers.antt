use Rattle.pb_proof.proofs.{Common.AcceptsItems, Common.largest, Common.top_of, Common.begin, Common.proofs, Common.IsProof, lemmas.machine.Asks.asks_only}
use Rattle.pb_proof.proofs.lemmas.machine.Exact.{reads_proofs}
use Rattle.pb_text.proofs.lemmas.text.Formats as formats
use Rattle.pb_proof.proofs.machine.ProofMachine.new.Goals as goal

pub returns-clause-reads : goal.returns-clause-reads
returns-clause-reads c =
    let l = largest c.args.limits in
    let t = top_of c.args.limits in
    λ longest. formats.reads (AcceptsItems proofs (begin l t)) (IsProof l t) (λ items h. (reads_proofs l t items).0 h) (λ items h. (reads_proofs l t items).1 h) longest

pub returns-clause-asks : goal.returns-clause-asks
returns-clause-asks c = asks_only (largest c.args.limits) (top_of c.args.limits)
