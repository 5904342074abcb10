use Rattle.pb_propagate.proofs.Common.{rules, arith, inr, or_right, negation, kept, database, progress}
use Rattle.pb_propagate.proofs.lemmas.{engine.Advances.advances-visit, engine.Literals.negation-negation, root.Questions.adopted-found}
use Rattle.pb_propagate.proofs.rulesets.Engine.{denial}
use Rattle.pb_propagate.proofs.engine.denial.deny.Goals as goal

pub returns-then-contains-clause-adopted : goal.returns-then-contains-clause-adopted
returns-then-contains-clause-adopted c = kept (grind (arith, c.contains.ensures, c.if-contains.true, negation-negation, or_right))

pub returns-clause-found : goal.returns-clause-found
returns-clause-found c = adopted-found (negation c.args.literal) c.args.run.now.assignment.list.items c.try_put.new.run.assignment.list.items c.args.run.now.visits c.count.new.self c.try_put.new.run.visits c.count.ensures.count c.in_ok-found.ensures.puts.advances.rising (rw c.negation.ensures at c.in_ok-found.ensures.adopted)

pub returns-clause-conflict : goal.returns-clause-conflict
returns-clause-conflict c = λ found. inr (c.in_ok-found.ensures.conflict found)

pub returns-then-contains-clause-puts : goal.returns-then-contains-clause-puts
returns-then-contains-clause-puts c = let advances = advances-visit (database c.args.store.now c.args.rests.now) (progress c.args.run.now) c.count.new.self 0 1 c.count.ensures.rising (omega (arith, c.count.ensures.count)) in search rules

pub returns-clause-denied : goal.returns-clause-denied
returns-clause-denied c = grind (arith, denial)
