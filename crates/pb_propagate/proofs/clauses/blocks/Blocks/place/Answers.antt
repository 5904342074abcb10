use Rattle.pb_propagate.proofs.{Common.arith, lemmas.clauses.Blocks.live-slot, lemmas.clauses.Blocks.live-at, lemmas.clauses.Blocks.place-written}
use Rattle.pb_propagate.proofs.clauses.blocks.Blocks.place.Goals as goal

pub index-requires : goal.index-requires
index-requires c = grind (arith, live-slot)

pub index_mut-requires : goal.index_mut-requires
index_mut-requires c = omega (arith, (live-at c.self.invariant c.self.view_is c.args.watch c.index.result.now c.requires.live c.index.ensures).at.end)

pub invariant_of-self : goal.invariant_of-self
invariant_of-self c =
    (place-written c.args.watch c.index.result.now _ c.self.invariant c.self.view_is
    (live-at c.self.invariant c.self.view_is c.args.watch c.index.result.now c.requires.live c.index.ensures) c.place_in-place.ensures
    c.args.spot c.requires.live c.requires.small).blocks

pub returns : goal.returns
returns c =
    (place-written c.args.watch c.index.result.now _ c.self.invariant c.self.view_is
    (live-at c.self.invariant c.self.view_is c.args.watch c.index.result.now c.requires.live c.index.ensures) c.place_in-place.ensures
    c.args.spot c.requires.live c.requires.small).is
