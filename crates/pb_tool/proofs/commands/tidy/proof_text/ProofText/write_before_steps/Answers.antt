use Rattle.pb_tool.proofs.Common.{refl, part_broke, part_then}
use Rattle.pb_tool.proofs.commands.tidy.proof_text.ProofText.write_before_steps.Goals as goal

pub returns-in_err-write_line : goal.returns-in_err-write_line
returns-in_err-write_line g c =
    part_broke g.W.Sink.contents g.W.Sink.faults _ _ _ _ _ _ refl c.from_residual.ensures.0 c.in_err-write_line.ensures

pub returns : goal.returns
returns g c = part_then g.W.Sink.contents g.W.Sink.faults _ _ _ _ _ _ _ refl c.in_ok-write_line.ensures c.write_line-2.ensures
