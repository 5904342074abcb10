use Rattle.pb_tool.proofs.commands.check.verdict.write_bounds.Goals as goal

pub returns : goal.returns
returns g c = rw (c.bound_text-low.ensures, c.bound_text-high.ensures) at c.write_parts.ensures
