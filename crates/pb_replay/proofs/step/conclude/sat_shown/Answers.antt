use Rattle.pb_replay.proofs.{Common.arith, lemmas.rules.Steps.goes-from, lemmas.rules.Steps.proper_kept, lemmas.rules.Steps.preserves_then}
use Rattle.pb_replay.proofs.step.conclude.sat_shown.Goals as goal

pub returns-clause-goes : goal.returns-clause-goes
returns-clause-goes c = grind (arith, goes-from, c.as_slice.ensures, c.in_ok-numbers.ensures.named, c.requires.proper, c.take_literals.ensures.preserves.kept, c.conclude_sat.ensures.goes, c.as_slice-2.ensures.value, c.in_ok-numbers.ensures.literals)

pub conclude_sat-requires-clause-proper : goal.conclude_sat-requires-clause-proper
conclude_sat-requires-clause-proper c = proper_kept c.args.running.now c.take_literals.new.running c.requires.proper c.take_literals.ensures.preserves.kept

pub returns-clause-preserves : goal.returns-clause-preserves
returns-clause-preserves c = preserves_then _ _ _ _ _ c.take_literals.ensures.preserves c.conclude_sat.ensures.preserves
