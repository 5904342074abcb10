use Rattle.pb_tool.proofs.Common.{refl, part_broke, part_then}
use Rattle.pb_tool.proofs.canonical.write_parts.Goals as goal

pub returns-in_err-write_text : goal.returns-in_err-write_text
returns-in_err-write_text g c =
    part_broke g.W.Sink.contents g.W.Sink.faults _ _ _ _ _ _ refl c.from_residual.ensures.0 c.in_err-write_text.ensures

pub returns : goal.returns
returns g c = part_then g.W.Sink.contents g.W.Sink.faults _ _ _ _ _ _ _ refl c.in_ok-write_text.ensures c.write_bytes.ensures
