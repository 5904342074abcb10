use Rattle.pb_tool.proofs.Common.{refl, part_broke, part_then}
use Rattle.pb_tool.proofs.commands.tidy.instance_text.InstanceTextCanonical.write_text.Goals as goal

pub returns-in_err-write_line_if : goal.returns-in_err-write_line_if
returns-in_err-write_line_if g c =
    part_broke g.W.Sink.contents g.W.Sink.faults _ _ _ _ _ _ refl c.from_residual.ensures.0 c.in_err-write_line_if.ensures

pub returns-in_err-write_bytes : goal.returns-in_err-write_bytes
returns-in_err-write_bytes g c =
    part_then g.W.Sink.contents g.W.Sink.faults _ _ _ _ _ _ _ refl c.in_ok-write_line_if.ensures
    (part_broke g.W.Sink.contents g.W.Sink.faults _ _ _ _ _ _ refl c.from_residual-in_err-write_bytes.ensures.0 (rw c.as_slice.ensures at c.in_err-write_bytes.ensures))

pub returns : goal.returns
returns g c =
    part_then g.W.Sink.contents g.W.Sink.faults _ _ _ _ _ _ _ refl c.in_ok-write_line_if.ensures
    (part_then g.W.Sink.contents g.W.Sink.faults _ _ _ _ _ _ _ refl (rw c.as_slice.ensures at c.in_ok-write_bytes.ensures) c.write_line_if-2.ensures)
