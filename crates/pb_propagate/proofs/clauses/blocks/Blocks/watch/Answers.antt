use Rattle.pb_propagate.proofs.Common.{◌/◌, arith, rules}
use Rattle.pb_propagate.proofs.lemmas.clauses.Blocks.{own-slot, own-at, both-written}
use Rattle.pb_propagate.proofs.clauses.blocks.Blocks.watch.Goals as goal

pub index-requires : goal.index-requires
index-requires c = search (rules, own-slot, c.self.view_is, c.requires.block, c.self.inside.starts.ok.0)

pub index_mut-requires : goal.index_mut-requires
index_mut-requires c = omega (arith, (own-at c.self.invariant c.self.view_is (c.args.watch / 2) c.index.result.now c.requires.block c.index.ensures).at.end)

pub index_mut-requires-2 : goal.index_mut-requires-2
index_mut-requires-2 c = omega (arith, (own-at c.self.invariant c.self.view_is (c.args.watch / 2) c.index.result.now c.requires.block c.index.ensures).at.end)

pub invariant_of-self : goal.invariant_of-self
invariant_of-self c =
    (both-written c.args.watch c.index.result.now _ c.self.invariant c.self.view_is
    (own-at c.self.invariant c.self.view_is (c.args.watch / 2) c.index.result.now c.requires.block c.index.ensures) c.place_in-place.ensures
    c.args.literal c.args.spot c.requires.small).blocks

pub returns : goal.returns
returns c =
    (both-written c.args.watch c.index.result.now _ c.self.invariant c.self.view_is
    (own-at c.self.invariant c.self.view_is (c.args.watch / 2) c.index.result.now c.requires.block c.index.ensures) c.place_in-place.ensures
    c.args.literal c.args.spot c.requires.small).is
