use Rattle.pb_propagate.proofs.{Common.negation, Common.arith, lemmas.engine.Literals.says-some}
use Rattle.pb_propagate.proofs.store.opened.is_falsified.Goals as goal

pub returns-in-Some : goal.returns-in-Some
returns-in-Some c = grind (arith, says-some c.args.values.now (negation c.args.literal) c.in-Some.value c.in-Some.is)
