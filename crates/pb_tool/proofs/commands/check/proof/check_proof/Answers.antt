use Rattle.pb_tool.proofs.commands.check.proof.check_proof.Goals as goal

pub returns-clause-comes : goal.returns-clause-comes
returns-clause-comes g c = c.run_checker-shown.ensures.comes c.args.longest c.args.replay c.begin-checker.ensures.begins
