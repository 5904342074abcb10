use Rattle.pb_pieces.proofs.Common.{opb, IsInstance, proofs, IsProof, largest, top_of, new_instance, new_proof}
use Rattle.pb_pieces.proofs.Giving.{are_read}
use Rattle.pb_pieces.proofs.reader.texts_are_read.Goals as goal

pub returns-clause-instances : goal.returns-clause-instances
returns-clause-instances c limits =
    are_read opb (new_instance limits) (IsInstance (largest limits) (top_of limits)) (c.instances_are_exact.ensures (largest limits) (top_of limits)) c.standing_is_reading.ensures

pub returns-clause-proofs : goal.returns-clause-proofs
returns-clause-proofs c limits =
    are_read proofs (new_proof limits) (IsProof (largest limits) (top_of limits)) (c.proofs_are_exact.ensures (largest limits) (top_of limits)) c.standing_is_reading-2.ensures
