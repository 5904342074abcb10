use Rattle.pb_pieces.proofs.Common.{◌^◌, [], refl, opb, IsInstance, proofs, IsProof, largest, top_of, new_instance, new_proof, opb_statements, proof_statements}
use Rattle.{pb_pieces.proofs.Giving.giving, std.specs.Option.unwrap_or}
use Rattle.pb_pieces.proofs.reader.Reader.open.Goals as goal

pub returns-in-Instance-clause-opened : goal.returns-in-Instance-clause-opened
returns-in-Instance-clause-opened c =
    let limits = c.args.limits in
    rw c.in-Instance.is (giving opb opb_statements (IsInstance (largest limits) (top_of limits)) (new_instance limits) (c.texts_are_read.ensures.instances limits) (unwrap_or c.args.longest (2 ^ 40)) [] [] [] c.new.result refl
    (rw c.new-machine.ensures.begins at c.new.ensures.reading))

pub returns-in-Proof-clause-opened : goal.returns-in-Proof-clause-opened
returns-in-Proof-clause-opened c =
    let limits = c.args.limits in
    rw c.in-Proof.is (giving proofs proof_statements (IsProof (largest limits) (top_of limits)) (new_proof limits) (c.texts_are_read.ensures.proofs limits) (unwrap_or c.args.longest (2 ^ 40)) [] [] [] c.new-in-Proof.result refl
    (rw c.new-machine-in-Proof.ensures.begins at c.new-in-Proof.ensures.reading))
