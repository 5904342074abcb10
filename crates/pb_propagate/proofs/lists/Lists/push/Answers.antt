use Rattle.pb_propagate.specs.declared.parts.Part.{Part}
use Rattle.std.proofs.Common.{◌+◌, ◌∙◌, ap, arith, length-set, sym}
use Rattle.pb_propagate.proofs.lemmas.Parts.{has_room, more_item, more_parts, part_count, reads}
use Rattle.pb_propagate.proofs.lists.Lists.push.Goals as goal

pub get-part-requires : goal.get-part-requires
get-part-requires g c =
    let l = c.self.inside in
    omega (arith, part_count l.items.items l.parts c.self.view_is, c.requires)

pub set-requires-clause-list : goal.set-requires-clause-list
set-requires-clause-list g c =
    let l = c.self.inside in
    omega (arith, part_count l.items.items l.parts c.self.view_is, c.requires)

pub set-requires-clause-stored : goal.set-requires-clause-stored
set-requires-clause-stored g c =
    has_room c.self.inside.parts c.args.list c.get-part.result c.get-part.ensures (omega (arith, c.if-part.true))

pub invariant_of-self : goal.invariant_of-self
invariant_of-self g c =
    let l = c.self.inside in let items = l.items.items in let p = c.get-part.result in
    let r = reads items l.parts c.args.list p c.self.invariant c.self.view_is c.requires c.get-part.ensures in
    let f = c.longer.ensures in
    rw (c.set.ensures, length-set items (p.start + p.len) c.args.item)
    (more_parts items l.parts c.args.list p c.self.invariant r.part c.longer.result c.if-part.true f.part.0 f.part.1 f.part.2)

pub overflow_cast-result : goal.overflow_cast-result
overflow_cast-result g c =
    let l = c.self.inside in let p = c.get-part.result in
    let r = reads l.items.items l.parts c.args.list p c.self.invariant c.self.view_is c.requires c.get-part.ensures in
    omega (arith, r.count, r.ends, l.items.ok.0)

pub returns-then-part-clause-position : goal.returns-then-part-clause-position
returns-then-part-clause-position g c =
    let l = c.self.inside in let p = c.get-part.result in
    let r = reads l.items.items l.parts c.args.list p c.self.invariant c.self.view_is c.requires c.get-part.ensures in
    sym r.count

pub returns-then-part-clause-ok : goal.returns-then-part-clause-ok
returns-then-part-clause-ok g c =
    let l = c.self.inside in let items = l.items.items in let p = c.get-part.result in
    let r = reads items l.parts c.args.list p c.self.invariant c.self.view_is c.requires c.get-part.ensures in
    let f = c.longer.ensures in
    rw (c.set.ensures, ← c.self.view_is)
    (more_item items l.parts c.args.list p c.self.invariant r.part c.args.item c.longer.result c.if-part.true f.part.0 f.part.1)

pub index_mut-requires : goal.index_mut-requires
index_mut-requires g c =
    let l = c.self.inside in let p = c.get-part.result in
    let r = reads l.items.items l.parts c.args.list p c.self.invariant c.self.view_is c.requires c.get-part.ensures in
    omega (arith, r.within.room, r.within.inside, c.if-part.true, l.items.ok.0)

pub set-requires-clause-room : goal.set-requires-clause-room
set-requires-clause-room g c = c.longer.ensures.part.2 ∙ ap (λ (p : Part). p.room) c.get-part.ensures
