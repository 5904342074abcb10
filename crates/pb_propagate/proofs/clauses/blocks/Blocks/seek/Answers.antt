use Rattle.pb_propagate.proofs.{Common.arith, Common.rules, lemmas.clauses.Blocks.own-slot, lemmas.clauses.Blocks.own-at, lemmas.clauses.Blocks.seek-written}
use Rattle.pb_propagate.proofs.clauses.blocks.Blocks.seek.Goals as goal

pub index-requires : goal.index-requires
index-requires c = search (rules, own-slot, c.self.view_is, c.requires.block, c.self.inside.starts.ok.0)

pub index_mut-requires : goal.index_mut-requires
index_mut-requires c = omega (arith, (own-at c.self.invariant c.self.view_is c.args.slot c.index.result.now c.requires.block c.index.ensures).at.end)

pub index_mut-requires-2 : goal.index_mut-requires-2
index_mut-requires-2 c = omega (arith, (own-at c.self.invariant c.self.view_is c.args.slot c.index.result.now c.requires.block c.index.ensures).at.end)

pub index_mut-requires-3 : goal.index_mut-requires-3
index_mut-requires-3 c = omega (arith, (own-at c.self.invariant c.self.view_is c.args.slot c.index.result.now c.requires.block c.index.ensures).at.end)

pub invariant_of-self : goal.invariant_of-self
invariant_of-self c =
    (seek-written c.self.invariant c.self.view_is
    (own-at c.self.invariant c.self.view_is c.args.slot c.index.result.now c.requires.block c.index.ensures) c.args.search).blocks

pub returns : goal.returns
returns c =
    (seek-written c.self.invariant c.self.view_is
    (own-at c.self.invariant c.self.view_is c.args.slot c.index.result.now c.requires.block c.index.ensures) c.args.search).is
