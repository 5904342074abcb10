use Rattle.pb_propagate.proofs.{Common.ℕ, Common.arith, Common.length-set, Common.inr, clauses.blocks.Blocks.write.Goals.After-index}
use Rattle.pb_propagate.proofs.lemmas.clauses.Blocks.{own-slot, own-at, IsOwn, whole-written}
use Rattle.pb_propagate.proofs.clauses.blocks.Blocks.write.Goals as goal

own : (c : After-index) → IsOwn c.self.inside.words.items c.self.inside.starts.items c.self.inside.rooms.items c.self.inside.run c.self.inside.count
    c.args.self.now c.args.slot c.index.result.now
own c = own-at c.self.invariant c.self.view_is c.args.slot c.index.result.now (inr (omega (arith, c.requires.room, c.requires.some))) c.index.ensures

pub index-requires : goal.index-requires
index-requires c = omega (arith, own-slot c.self.invariant c.self.view_is c.args.slot (inr (omega (arith, c.requires.room, c.requires.some))))

pub index_mut-requires : goal.index_mut-requires
index_mut-requires c = omega (arith, (own (goal.at.index_mut-requires c).After-index).at.end)

pub write-requires : goal.write-requires
write-requires c =
    let at = (own (goal.at.write-requires c).After-index).at in omega (arith, at.end, at.room_is, c.requires.room, length-set {A = ℕ})

pub invariant_of-self : goal.invariant_of-self
invariant_of-self c =
    (whole-written c.self.invariant c.self.view_is (own (goal.at.invariant_of-self c).After-index) _ c.args.literals.now c.requires.room
    c.write.ensures.size c.write.ensures.outside c.write.ensures.inside).blocks

pub returns : goal.returns
returns c =
    (whole-written c.self.invariant c.self.view_is (own (goal.at.returns c).After-index) _ c.args.literals.now c.requires.room
    c.write.ensures.size c.write.ensures.outside c.write.ensures.inside).is
