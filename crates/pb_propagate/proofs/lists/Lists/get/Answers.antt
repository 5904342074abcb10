use Rattle.std.proofs.Common.{arith}
use Rattle.pb_propagate.proofs.lemmas.Parts.{part_count, read_item, reads}
use Rattle.pb_propagate.proofs.lists.Lists.get.Goals as goal

pub get-part-requires : goal.get-part-requires
get-part-requires g c =
    let l = c.self.inside in
    omega (arith, part_count l.items.items l.parts c.self.view_is, c.requires.list)

pub index-requires : goal.index-requires
index-requires g c =
    let l = c.self.inside in
    let r = reads l.items.items l.parts c.args.list c.get-part.result c.self.invariant c.self.view_is c.requires.list c.get-part.ensures in
    omega (arith, c.requires.index, r.count, r.ends, l.items.ok.0)

pub returns : goal.returns
returns g c =
    let l = c.self.inside in let p = c.get-part.result in
    let r = reads l.items.items l.parts c.args.list p c.self.invariant c.self.view_is c.requires.list c.get-part.ensures in
    read_item l.items.items l.parts c.args.list p c.args.index c.index.result.now r c.requires.index c.index.ensures
