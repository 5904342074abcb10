use Rattle.pb_replay.proofs.Common.{rules, IsSome, arith}
use Rattle.pb_replay.proofs.lemmas.rules.{Completions.some-objective, Steps.goes-from, Steps.proper_kept, Steps.preserves_then}
use Rattle.pb_replay.proofs.step.solution.soli.Goals as goal

pub returns-clause-goes : goal.returns-clause-goes
returns-clause-goes c = grind (arith, goes-from, c.as_slice.ensures, c.in_ok-numbers.ensures.named, c.requires.proper, c.take_literals.ensures.preserves.kept, c.improve.ensures.goes, c.as_slice-2.ensures.value, c.in_ok-numbers.ensures.literals)

pub returns-in_err-numbers-clause-memory : goal.returns-in_err-numbers-clause-memory
returns-in_err-numbers-clause-memory c memory = let o : IsSome c.args.running.now.objective = search rules in some-objective c.args.running.now o

pub returns-clause-memory : goal.returns-clause-memory
returns-clause-memory c memory = let o : IsSome c.args.running.now.objective = search rules in some-objective c.args.running.now o

pub improve-requires-clause-proper : goal.improve-requires-clause-proper
improve-requires-clause-proper c = proper_kept c.args.running.now c.take_literals.new.running c.requires.proper c.take_literals.ensures.preserves.kept

pub returns-clause-preserves : goal.returns-clause-preserves
returns-clause-preserves c = preserves_then _ _ _ _ _ c.take_literals.ensures.preserves c.improve.ensures.preserves
