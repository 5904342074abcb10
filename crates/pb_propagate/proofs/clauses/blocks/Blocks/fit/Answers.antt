use Rattle.pb_propagate.proofs.Common.{◌∙◌, ap, arith, Contents, set, sym}
use Rattle.pb_propagate.proofs.clauses.blocks.Blocks.fit.Goals.{In_ok-append}
use Rattle.pb_propagate.proofs.lemmas.clauses.Blocks.{Store, fitted, renumbered, roomed}
use Rattle.pb_propagate.proofs.clauses.blocks.Blocks.fit.Goals as goal

-- the block is new
new : (c : In_ok-append) → Store c.append.new.words.items (set c.reach_both.new.starts.items c.args.slot c.len-start.result)
    (set c.reach_both.new.rooms.items c.args.slot c.room_of-room.result) c.self.inside.run c.self.inside.count
    (roomed c.args.self.now (set c.reach_both.new.rooms.items c.args.slot c.room_of-room.result))
new c =
    let s =
    renumbered c.reach_both.new.starts.items c.reach_both.new.rooms.items c.self.invariant c.self.view_is c.reach_both.ensures.starts
    c.reach_both.ensures.rooms in
    let stored = c.in_ok-reach_both.ensures.stored in
    let none = c.reach_both.ensures.rooms c.args.slot ∙ sym (rw c.as_slice.ensures.value at c.number_of-held.ensures) in
    fitted c.args.slot c.len-start.result c.room_of-room.result s.blocks s.is c.requires.slot stored.0 stored.1
    (omega (arith, c.if-held-gt0.false, none)) (omega (arith, c.if-slot-ge2147483647.false))
    (omega (arith, c.len-start.ensures, c.self.inside.words.ok.0)) c.in_ok-append.ensures.size c.in_ok-append.ensures.kept
    c.in_ok-append.ensures.bare (omega (arith, c.requires.some, c.room_of-room.ensures))

pub invariant_of-self-2 : goal.invariant_of-self-2
invariant_of-self-2 c = (new (goal.at.invariant_of-self-2 c).In_ok-append).blocks

pub returns-clause-literals : goal.returns-clause-literals
returns-clause-literals c = ap (λ (v : Contents). v.literals) (new (goal.at.returns-clause-literals c).In_ok-append).is

pub returns-clause-searches : goal.returns-clause-searches
returns-clause-searches c = ap (λ (v : Contents). v.searches) (new (goal.at.returns-clause-searches c).In_ok-append).is

pub returns-clause-watches : goal.returns-clause-watches
returns-clause-watches c = ap (λ (v : Contents). v.watches) (new (goal.at.returns-clause-watches c).In_ok-append).is
