use Rattle.pb_replay.proofs.{Common.arith, lemmas.rules.Steps.came}
use Rattle.pb_replay.proofs.step.apply.Goals as goal

pub returns-clause-comes : goal.returns-clause-comes
returns-clause-comes c = grind (arith, came, c.carry_out.ensures.goes)
