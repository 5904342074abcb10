use Rattle.pb_proof.proofs.{Common.refl, Common.part_broke, Common.part_then, lemmas.Texts.proof_parts}
use Rattle.pb_proof.proofs.write.write_proof.Goals as goal

pub returns-in_err-write_head : goal.returns-in_err-write_head
returns-in_err-write_head g c =
    part_broke g.S.Sink.contents g.S.Sink.faults _ _ _ _ _ _ (proof_parts c.args.proof.now) c.from_residual.ensures.0 c.in_err-write_head.ensures

pub returns-in_err-write_steps : goal.returns-in_err-write_steps
returns-in_err-write_steps g c =
    part_then g.S.Sink.contents g.S.Sink.faults _ _ _ _ _ _ _ (proof_parts c.args.proof.now) c.in_ok-write_head.ensures
    (part_broke g.S.Sink.contents g.S.Sink.faults _ _ _ _ _ _ refl c.from_residual-in_err-write_steps.ensures.0 (rw c.as_slice.ensures at c.in_err-write_steps.ensures))

pub returns-in_err-write_bytes : goal.returns-in_err-write_bytes
returns-in_err-write_bytes g c =
    part_then g.S.Sink.contents g.S.Sink.faults _ _ _ _ _ _ _ (proof_parts c.args.proof.now) c.in_ok-write_head.ensures
    (part_then g.S.Sink.contents g.S.Sink.faults _ _ _ _ _ _ _ refl (rw c.as_slice.ensures at c.in_ok-write_steps.ensures)
    (part_broke g.S.Sink.contents g.S.Sink.faults _ _ _ _ _ _ refl c.from_residual-in_err-write_bytes.ensures.0 c.in_err-write_bytes.ensures))

pub returns-in_err-write_conclusion : goal.returns-in_err-write_conclusion
returns-in_err-write_conclusion g c =
    part_then g.S.Sink.contents g.S.Sink.faults _ _ _ _ _ _ _ (proof_parts c.args.proof.now) c.in_ok-write_head.ensures
    (part_then g.S.Sink.contents g.S.Sink.faults _ _ _ _ _ _ _ refl (rw c.as_slice.ensures at c.in_ok-write_steps.ensures)
    (part_then g.S.Sink.contents g.S.Sink.faults _ _ _ _ _ _ _ refl c.in_ok-write_bytes.ensures
    (part_broke g.S.Sink.contents g.S.Sink.faults _ _ _ _ _ _ refl c.from_residual-in_err-write_conclusion.ensures.0 c.in_err-write_conclusion.ensures)))

pub returns : goal.returns
returns g c =
    part_then g.S.Sink.contents g.S.Sink.faults _ _ _ _ _ _ _ (proof_parts c.args.proof.now) c.in_ok-write_head.ensures
    (part_then g.S.Sink.contents g.S.Sink.faults _ _ _ _ _ _ _ refl (rw c.as_slice.ensures at c.in_ok-write_steps.ensures)
    (part_then g.S.Sink.contents g.S.Sink.faults _ _ _ _ _ _ _ refl c.in_ok-write_bytes.ensures
    (part_then g.S.Sink.contents g.S.Sink.faults _ _ _ _ _ _ _ refl c.in_ok-write_conclusion.ensures
    c.write_bytes-2.ensures)))
