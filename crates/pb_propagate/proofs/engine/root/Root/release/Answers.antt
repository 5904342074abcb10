use Rattle.pb_propagate.proofs.{Common.arith, lemmas.root.Retracted.needless-codes}
use Rattle.pb_propagate.proofs.engine.root.Root.release.Goals as goal

pub returns-then-is_filled-clause-needless : goal.returns-then-is_filled-clause-needless
returns-then-is_filled-clause-needless c = grind (arith, c.release_by_literals.ensures.released.rooted, c.requires.joined, c.requires.slots, c.requires.rooted, needless-codes, c.requires.slot, c.is_filled.ensures.yes, c.if-is_filled.true, c.release_by_literals.ensures.needless)
