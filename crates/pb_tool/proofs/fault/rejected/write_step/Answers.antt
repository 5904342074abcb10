use Rattle.pb_tool.proofs.Common.{◌++◌, ◌∷◌, [], append_assoc, refl, part_broke, part_then, place_text, prefix_of}
use Rattle.pb_tool.specs.{contract.Refusals.refusal_text, declared.fault.Input.TheVariants.Proof}
use Rattle.pb_tool.proofs.fault.rejected.write_step.Goals as goal

pub returns-in_err-write_place : goal.returns-in_err-write_place
returns-in_err-write_place g c =
    part_broke g.S.Sink.contents g.S.Sink.faults _ _ _ _ _ _ (append_assoc (prefix_of Proof ++ place_text c.args.place) (refusal_text c.args.fault c.args.name.now) (10 ∷ [])) c.from_residual.ensures.0 c.in_err-write_place.ensures

pub returns-in_err-write_refusal : goal.returns-in_err-write_refusal
returns-in_err-write_refusal g c =
    part_then g.S.Sink.contents g.S.Sink.faults _ _ _ _ _ _ _ (append_assoc (prefix_of Proof ++ place_text c.args.place) (refusal_text c.args.fault c.args.name.now) (10 ∷ [])) c.in_ok-write_place.ensures
    (part_broke g.S.Sink.contents g.S.Sink.faults _ _ _ _ _ _ refl c.from_residual-in_err-write_refusal.ensures.0 c.in_err-write_refusal.ensures)

pub returns : goal.returns
returns g c =
    part_then g.S.Sink.contents g.S.Sink.faults _ _ _ _ _ _ _ (append_assoc (prefix_of Proof ++ place_text c.args.place) (refusal_text c.args.fault c.args.name.now) (10 ∷ [])) c.in_ok-write_place.ensures
    (part_then g.S.Sink.contents g.S.Sink.faults _ _ _ _ _ _ _ refl c.in_ok-write_refusal.ensures c.write_bytes.ensures)
