use Rattle.pb_propagate.proofs.Common.{arith, get_or_read}
use Rattle.pb_propagate.proofs.lemmas.clauses.Blocks.{live-slot, live-at, watch-read}
use Rattle.pb_propagate.proofs.clauses.blocks.Blocks.spot.Goals as goal

pub index-requires : goal.index-requires
index-requires c = grind (arith, live-slot)

pub index-requires-2 : goal.index-requires-2
index-requires-2 c = omega (arith, (live-at c.self.invariant c.self.view_is c.args.watch c.index.result.now c.requires c.index.ensures).at.end)

pub returns : goal.returns
returns c =
    let at = (live-at c.self.invariant c.self.view_is c.args.watch c.index.result.now c.requires c.index.ensures).at in
    let read = get_or_read c.self.inside.words.items _ c.index-2.result.now (omega (arith, at.end, c.place_in.ensures)) c.index-2.ensures 0 in
    omega (arith, (watch-read c.args.watch c.index.result.now c.place_in.result at c.requires c.place_in.ensures).1, read)
