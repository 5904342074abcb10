use Rattle.pb_pieces.proofs.{Common.[], Readers.instance_ends, Readers.proof_ends}
use Rattle.pb_pieces.proofs.reader.Reader.finish.Goals as goal

pub returns-in-Instance-clause-ends : goal.returns-in-Instance-clause-ends
returns-in-Instance-clause-ends c format limits longest fed events running h =
    instance_ends limits longest fed events [] (c.texts_are_read.ensures.instances limits) format _ _ c.finish.result (rw c.in-Instance.is at h)
    (λ spans reading. c.finish.ensures.ends longest _ fed spans (rw c.in-Instance.is at running) reading)

pub returns-in-Proof-clause-ends : goal.returns-in-Proof-clause-ends
returns-in-Proof-clause-ends c format limits longest fed events running h =
    proof_ends limits longest fed events [] (c.texts_are_read.ensures.proofs limits) format _ _ c.finish-in-Proof.result (rw c.in-Proof.is at h)
    (λ spans reading. c.finish-in-Proof.ensures.ends longest _ fed spans (rw c.in-Proof.is at running) reading)
