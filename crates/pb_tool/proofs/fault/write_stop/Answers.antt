use Rattle.pb_tool.proofs.Common.{◌++◌, ◌∷◌, [], append_assoc, refl, part_broke, part_then, place_text, reason_of, prefix_of}
use Rattle.pb_tool.proofs.fault.write_stop.Goals as goal

pub returns-in_err-write_place : goal.returns-in_err-write_place
returns-in_err-write_place g c =
    part_broke g.S.Sink.contents g.S.Sink.faults _ _ _ _ _ _ (append_assoc (prefix_of c.args.input ++ place_text c.args.stop.place) (reason_of c.args.stop.why) (10 ∷ [])) c.from_residual.ensures.0 c.in_err-write_place.ensures

pub returns-in_err-write_reason : goal.returns-in_err-write_reason
returns-in_err-write_reason g c =
    part_then g.S.Sink.contents g.S.Sink.faults _ _ _ _ _ _ _ (append_assoc (prefix_of c.args.input ++ place_text c.args.stop.place) (reason_of c.args.stop.why) (10 ∷ [])) c.in_ok-write_place.ensures
    (part_broke g.S.Sink.contents g.S.Sink.faults _ _ _ _ _ _ refl c.from_residual-in_err-write_reason.ensures.0 c.in_err-write_reason.ensures)

pub returns : goal.returns
returns g c =
    part_then g.S.Sink.contents g.S.Sink.faults _ _ _ _ _ _ _ (append_assoc (prefix_of c.args.input ++ place_text c.args.stop.place) (reason_of c.args.stop.why) (10 ∷ [])) c.in_ok-write_place.ensures
    (part_then g.S.Sink.contents g.S.Sink.faults _ _ _ _ _ _ _ refl c.in_ok-write_reason.ensures c.write_bytes.ensures)
