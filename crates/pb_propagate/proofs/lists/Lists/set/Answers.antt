use Rattle.std.proofs.Common.{arith}
use Rattle.pb_propagate.proofs.lemmas.Parts.{part_count, reads, set_item}
use Rattle.pb_propagate.proofs.lists.Lists.set.Goals as goal

pub get-part-requires : goal.get-part-requires
get-part-requires g c =
    let l = c.self.inside in
    omega (arith, part_count l.items.items l.parts c.self.view_is, c.requires.list)

pub index_mut-requires : goal.index_mut-requires
index_mut-requires g c =
    let l = c.self.inside in
    let r = reads l.items.items l.parts c.args.list c.get-part.result c.self.invariant c.self.view_is c.requires.list c.get-part.ensures in
    omega (arith, c.requires.index, r.count, r.ends, l.items.ok.0)

pub returns : goal.returns
returns g c =
    let l = c.self.inside in
    let r = reads l.items.items l.parts c.args.list c.get-part.result c.self.invariant c.self.view_is c.requires.list c.get-part.ensures in
    rw (← c.self.view_is) (set_item l.items.items l.parts c.args.list c.get-part.result c.self.invariant r.part c.args.index c.args.item (omega (arith, c.requires.index, r.count)))
