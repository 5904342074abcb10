use Rattle.pb_propagate.proofs.Common.{arith, inl, rules}
use Rattle.pb_propagate.proofs.lemmas.clauses.Blocks.{own-slot, own-at, clear-written}
use Rattle.pb_propagate.proofs.clauses.blocks.Blocks.clear.Goals as goal

pub index-requires : goal.index-requires
index-requires c = grind (arith, own-slot)

pub index_mut-requires : goal.index_mut-requires
index_mut-requires c = omega (arith, (own-at c.self.invariant c.self.view_is c.args.slot c.index.result.now (inl c.requires) c.index.ensures).at.end)

pub invariant_of-self : goal.invariant_of-self
invariant_of-self c = search (rules, clear-written, c.self.view_is, own-at, c.requires, c.index.ensures)

pub returns : goal.returns
returns c =
    (clear-written c.self.invariant c.self.view_is (own-at c.self.invariant c.self.view_is c.args.slot c.index.result.now (inl c.requires) c.index.ensures)).is
