use Rattle.pb_propagate.proofs.{Common.arith, clauses.blocks.Blocks.begin.Goals.After-number_of-start, lemmas.clauses.Blocks.IsAt}
use Rattle.pb_propagate.proofs.lemmas.clauses.Blocks.{slot-at, start-own, shared-begun, begin-written}
use Rattle.pb_propagate.proofs.clauses.blocks.Blocks.begin.Goals as goal

-- the block of the slot
block : (c : After-number_of-start) → IsAt c.self.inside.words.items c.self.inside.starts.items c.self.inside.rooms.items c.self.inside.run
    c.self.inside.count c.args.self.now c.args.slot c.number_of-start.result
block c = slot-at c.self.invariant c.self.view_is c.args.slot c.number_of-start.result c.requires (rw c.as_slice.ensures.value at c.number_of-start.ensures)

pub index_mut-requires : goal.index_mut-requires
index_mut-requires c = omega (arith, (block (goal.at.index_mut-requires c).After-number_of-start).end)

pub returns-then-start-gt0 : goal.returns-then-start-gt0
returns-then-start-gt0 c =
    (begin-written c.self.invariant c.self.view_is (start-own c.self.invariant c.args.slot c.number_of-start.result
    (block (goal.at.returns-then-start-gt0 c).After-number_of-start) c.if-start-gt0.true)).is

pub returns-else-start-gt0 : goal.returns-else-start-gt0
returns-else-start-gt0 c =
    let at = block (goal.at.returns-else-start-gt0 c).After-number_of-start in
    shared-begun c.self.invariant c.self.view_is c.args.slot at.slot (omega (arith, at.at, c.if-start-gt0.false))
