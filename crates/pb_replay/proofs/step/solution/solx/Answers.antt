use Rattle.pb_replay.proofs.{Common.arith, lemmas.rules.Steps.goes-from, lemmas.rules.Steps.proper_kept, lemmas.rules.Steps.preserves_then}
use Rattle.pb_replay.proofs.step.solution.solx.Goals as goal

pub returns-clause-goes : goal.returns-clause-goes
returns-clause-goes c = grind (arith, goes-from, c.as_slice.ensures, c.in_ok-numbers.ensures.named, c.requires.proper, c.take_literals.ensures.preserves.kept, c.exclude.ensures.goes, c.as_slice-2.ensures.value, c.in_ok-numbers.ensures.literals)

pub exclude-requires-clause-proper : goal.exclude-requires-clause-proper
exclude-requires-clause-proper c = proper_kept c.args.running.now c.take_literals.new.running c.requires.proper c.take_literals.ensures.preserves.kept

pub returns-clause-preserves : goal.returns-clause-preserves
returns-clause-preserves c = preserves_then _ _ _ _ _ c.take_literals.ensures.preserves c.exclude.ensures.preserves
