use Rattle.pb_tool.proofs.commands.check.check_with_hasher.Goals as goal

pub returns : goal.returns
returns g c = c.check_watched.ensures.checked
