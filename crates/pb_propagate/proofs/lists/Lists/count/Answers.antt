use Rattle.std.proofs.Common.{arith, sym}
use Rattle.pb_propagate.proofs.lemmas.Parts.{part_count, reads}
use Rattle.pb_propagate.proofs.lists.Lists.count.Goals as goal

pub get-requires : goal.get-requires
get-requires g c =
    let l = c.self.inside in
    omega (arith, part_count l.items.items l.parts c.self.view_is, c.requires)

pub returns : goal.returns
returns g c =
    let l = c.self.inside in
    let r = reads l.items.items l.parts c.args.list c.get.result c.self.invariant c.self.view_is c.requires c.get.ensures in
    sym r.count
