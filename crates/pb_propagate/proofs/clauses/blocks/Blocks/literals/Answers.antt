use Rattle.pb_propagate.proofs.{Common.arith, Common.get_or_read, Common.rules, clauses.blocks.Blocks.literals.Goals.After-number_of-start}
use Rattle.pb_propagate.proofs.lemmas.clauses.Blocks.{IsAt, slot-at, clause-read}
use Rattle.pb_propagate.proofs.clauses.blocks.Blocks.literals.Goals as goal

-- the block of the slot
block : (c : After-number_of-start) → IsAt c.self.inside.words.items c.self.inside.starts.items c.self.inside.rooms.items c.self.inside.run
    c.self.inside.count c.args.self.now c.args.slot c.number_of-start.result
block c = slot-at c.self.invariant c.self.view_is c.args.slot c.number_of-start.result c.requires (rw c.as_slice.ensures.value at c.number_of-start.ensures)

pub index-requires : goal.index-requires
index-requires c = omega (arith, (block (goal.at.index-requires c).After-number_of-start).end)

pub slice_bounds-result-end : goal.slice_bounds-result-end
slice_bounds-result-end c =
    let b = block (goal.at.slice_bounds-result-end c).After-number_of-start in
    search (rules, b.end, b.count, get_or_read, c.index.ensures, c.deref.ensures.value)

pub returns-clause-literals : goal.returns-clause-literals
returns-clause-literals c =
    let b = block (goal.at.returns-clause-literals c).After-number_of-start in
    rw c.deref.ensures.value (clause-read b _ (omega (arith, get_or_read c.self.inside.words.items _ c.index.result.now (omega (arith, b.end)) c.index.ensures 0)))
