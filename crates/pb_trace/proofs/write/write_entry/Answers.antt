use Rattle.pb_trace.proofs.{Common.refl, Common.part_broke, Common.part_then, Texts.entry_parts}
use Rattle.pb_trace.proofs.write.write_entry.Goals as goal

pub returns-in_err-write_coefficient : goal.returns-in_err-write_coefficient
returns-in_err-write_coefficient g c =
    part_broke g.S.Sink.contents g.S.Sink.faults _ _ _ _ _ _ (entry_parts _ _) c.from_residual.ensures.0 c.in_err-write_coefficient.ensures

pub returns-in_err-write_numbered : goal.returns-in_err-write_numbered
returns-in_err-write_numbered g c =
    part_then g.S.Sink.contents g.S.Sink.faults _ _ _ _ _ _ _ (entry_parts _ _) c.in_ok-write_coefficient.ensures
    (part_broke g.S.Sink.contents g.S.Sink.faults _ _ _ _ _ _ refl c.from_residual-in_err-write_numbered.ensures.0 c.in_err-write_numbered.ensures)

pub returns : goal.returns
returns g c =
    part_then g.S.Sink.contents g.S.Sink.faults _ _ _ _ _ _ _ (entry_parts _ _) c.in_ok-write_coefficient.ensures
    (part_then g.S.Sink.contents g.S.Sink.faults _ _ _ _ _ _ _ refl c.in_ok-write_numbered.ensures
    (c.write_bytes.ensures))
