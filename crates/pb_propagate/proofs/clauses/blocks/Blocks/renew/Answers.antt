use Rattle.pb_propagate.proofs.lemmas.clauses.Blocks.{next-run, renewed-by}
use Rattle.pb_propagate.proofs.clauses.blocks.Blocks.renew.Goals as goal

pub invariant_of-self : goal.invariant_of-self
invariant_of-self c = next-run c.self.invariant

pub returns : goal.returns
returns c = renewed-by c.self.invariant c.self.view_is
