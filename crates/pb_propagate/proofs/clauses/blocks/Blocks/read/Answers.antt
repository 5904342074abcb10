use Rattle.pb_propagate.proofs.Common.{ℕ, ◌+◌, ◌-◌, ◌<◌, ◌≡◌, arith, drop, get_or, get_or-drop, get_or-take, List, number_at, rules, take}
use Rattle.pb_propagate.proofs.{clauses.blocks.Blocks.read.Goals.After-number_of-start, lemmas.clauses.Blocks.IsAt}
use Rattle.pb_propagate.proofs.lemmas.clauses.Blocks.{slot-at, clause-read, search-read}
use Rattle.pb_propagate.proofs.clauses.blocks.Blocks.read.Goals as goal

-- a word of a block's header, which begins at a position
word-at : (words ws : List ℕ) (a k : ℕ) → ws ≡ words → k < 8 → get_or (take (a + 8 - a) (drop a ws)) k 0 ≡ number_at words (a + k)
word-at words ws a k same h = grind (arith, same, get_or-take, get_or-drop)

-- the block of the slot
block : (c : After-number_of-start) → IsAt c.self.inside.words.items c.self.inside.starts.items c.self.inside.rooms.items c.self.inside.run
    c.self.inside.count c.args.self.now c.args.slot c.number_of-start.result
block c = slot-at c.self.invariant c.self.view_is c.args.slot c.number_of-start.result c.requires (rw c.as_slice.ensures.value at c.number_of-start.ensures)

pub slice_bounds-header-end : goal.slice_bounds-header-end
slice_bounds-header-end c = search (rules, (block (goal.at.slice_bounds-header-end c).After-number_of-start).end, c.deref.ensures.value)

pub slice_bounds-result-end : goal.slice_bounds-result-end
slice_bounds-result-end c =
    let b = block (goal.at.slice_bounds-result-end c).After-number_of-start in
    let count = word-at c.self.inside.words.items c.deref.result.now c.number_of-start.result 6 c.deref.ensures.value (omega arith) in
    search (rules, count, b.count, b.end, c.deref-2.ensures.value)

pub returns-clause-search : goal.returns-clause-search
returns-clause-search c =
    search-read (block (goal.at.returns-clause-search c).After-number_of-start) _ _
    (λ k h. word-at c.self.inside.words.items c.deref.result.now c.number_of-start.result k c.deref.ensures.value h) c.passed_in.ensures

pub returns-clause-literals : goal.returns-clause-literals
returns-clause-literals c =
    let b = block (goal.at.returns-clause-literals c).After-number_of-start in
    let count = word-at c.self.inside.words.items c.deref.result.now c.number_of-start.result 6 c.deref.ensures.value (omega arith) in
    rw c.deref-2.ensures.value (clause-read b _ (omega (arith, count)))
