use Rattle.pb_tool.proofs.commands.tidy.tidy.Goals as goal

pub returns-clause-tidies : goal.returns-clause-tidies
returns-clause-tidies g c = c.tidy_with_hasher.ensures.tidies

pub returns-clause-given : goal.returns-clause-given
returns-clause-given g c = c.tidy_with_hasher.ensures.given
