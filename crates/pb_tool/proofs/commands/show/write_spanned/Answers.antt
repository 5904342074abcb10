use Rattle.pb_tool.proofs.{Common.part_broke, Common.part_then, lemmas.show.ShownStatements.line_parts}
use Rattle.pb_tool.proofs.commands.show.write_spanned.Goals as goal

pub returns-in_err-write_place : goal.returns-in_err-write_place
returns-in_err-write_place g c =
    part_broke g.W.Sink.contents g.W.Sink.faults _ _ _ _ _ _ (line_parts g.E.Canonical.text c.args.read.now) c.from_residual.ensures.0 c.in_err-write_place.ensures

pub returns : goal.returns
returns g c =
    part_then g.W.Sink.contents g.W.Sink.faults _ _ _ _ _ _ _ (line_parts g.E.Canonical.text c.args.read.now) c.in_ok-write_place.ensures c.write_line.ensures
