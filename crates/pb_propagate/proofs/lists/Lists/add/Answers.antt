use Rattle.std.proofs.Common.{arith, length}
use Rattle.pb_propagate.proofs.lemmas.Parts.{lists-next, part_count, parts-next}
use Rattle.pb_propagate.proofs.lists.Lists.add.Goals as goal

pub add-requires : goal.add-requires
add-requires g c =
    let l = c.self.inside in
    omega (arith, part_count l.items.items l.parts c.self.view_is, c.requires)

pub invariant_of-self : goal.invariant_of-self
invariant_of-self g c =
    let l = c.self.inside in
    rw c.add.ensures (parts-next (length l.items.items) l.parts c.self.invariant)

pub returns : goal.returns
returns g c =
    let l = c.self.inside in
    rw c.add.ensures (lists-next l.items.items l.parts c.self.view_is)
