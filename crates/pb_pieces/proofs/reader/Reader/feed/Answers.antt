use Rattle.pb_pieces.proofs.Readers.{instance_gives, instance_stops, proof_gives, proof_stops}
use Rattle.pb_pieces.proofs.reader.Reader.feed.Goals as goal

pub returns-in-Instance-clause-gives : goal.returns-in-Instance-clause-gives
returns-in-Instance-clause-gives c format limits longest fed events running h =
    instance_gives limits longest fed events c.args.piece.now (c.texts_are_read.ensures.instances limits) format _ _ c.feed.result (rw c.in-Instance.is at h)
    (λ spans reading. c.feed.ensures.gives longest _ fed spans (rw c.in-Instance.is at running) reading)

pub returns-in-Instance-clause-stops : goal.returns-in-Instance-clause-stops
returns-in-Instance-clause-stops c format limits longest fed events running h =
    instance_stops limits longest fed events c.args.piece.now (c.texts_are_read.ensures.instances limits) format _ c.feed.new.self c.feed.result (rw c.in-Instance.is at h)
    (λ spans reading. c.feed.ensures.stops longest _ fed spans (rw c.in-Instance.is at running) reading)

pub returns-in-Proof-clause-gives : goal.returns-in-Proof-clause-gives
returns-in-Proof-clause-gives c format limits longest fed events running h =
    proof_gives limits longest fed events c.args.piece.now (c.texts_are_read.ensures.proofs limits) format _ _ c.feed-in-Proof.result (rw c.in-Proof.is at h)
    (λ spans reading. c.feed-in-Proof.ensures.gives longest _ fed spans (rw c.in-Proof.is at running) reading)

pub returns-in-Proof-clause-stops : goal.returns-in-Proof-clause-stops
returns-in-Proof-clause-stops c format limits longest fed events running h =
    proof_stops limits longest fed events c.args.piece.now (c.texts_are_read.ensures.proofs limits) format _ c.feed-in-Proof.new.self c.feed-in-Proof.result (rw c.in-Proof.is at h)
    (λ spans reading. c.feed-in-Proof.ensures.stops longest _ fed spans (rw c.in-Proof.is at running) reading)
