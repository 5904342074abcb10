use Rattle.pb_tool.proofs.Common.{ℕ, List, Option, refl, Some, part_broke, part_then}
use Rattle.pb_tool.specs.declared.commands.tidy.page.Page.{Page}
use Rattle.pb_tool.proofs.commands.tidy.instance_text.write_after.Goals as goal

abbrev contents : Page → Option (List ℕ)
contents p = Some p.text

abbrev faults : Page → ℕ
faults p = p.failures

pub returns-in_err-write_line_if : goal.returns-in_err-write_line_if
returns-in_err-write_line_if c = part_broke contents faults _ _ _ _ _ _ refl c.from_residual.ensures.0 c.in_err-write_line_if.ensures

pub returns : goal.returns
returns c = part_then contents faults _ _ _ _ _ _ _ refl c.in_ok-write_line_if.ensures c.write_line.ensures
