use Rattle.pb_propagate.specs.declared.parts.Part.{Part}
use Rattle.std.proofs.Common.{◌+◌, ◌-◌, ◌∙◌, ap, sym, get_or, [], arith, length-set, refl}
use Rattle.std.proofs.lemmas.Option.{IfSome_then}
use Rattle.pb_propagate.proofs.lemmas.Parts.{fewer_parts, has_room, none-then, part_count, read_item, reads, without_item}
use Rattle.pb_propagate.proofs.lists.Lists.swap_remove.Goals as goal

pub get-part-requires : goal.get-part-requires
get-part-requires g c =
    let l = c.self.inside in
    omega (arith, part_count l.items.items l.parts c.self.view_is, c.requires.list)

pub set-requires-clause-list : goal.set-requires-clause-list
set-requires-clause-list g c =
    let l = c.self.inside in
    omega (arith, part_count l.items.items l.parts c.self.view_is, c.requires.list)

pub set-requires-clause-stored : goal.set-requires-clause-stored
set-requires-clause-stored g c =
    let l = c.self.inside in let p = c.get-part.result in
    let r = reads l.items.items l.parts c.args.list p c.self.invariant c.self.view_is c.requires.list c.get-part.ensures in
    has_room l.parts c.args.list p c.get-part.ensures (omega (arith, c.requires.index, r.count, r.within.room))

pub overflow_sub-last : goal.overflow_sub-last
overflow_sub-last g c =
    let l = c.self.inside in
    let r = reads l.items.items l.parts c.args.list c.get-part.result c.self.invariant c.self.view_is c.requires.list c.get-part.ensures in
    omega (arith, c.requires.index, r.count)

pub index-removed-requires : goal.index-removed-requires
index-removed-requires g c =
    let l = c.self.inside in
    let r = reads l.items.items l.parts c.args.list c.get-part.result c.self.invariant c.self.view_is c.requires.list c.get-part.ensures in
    omega (arith, c.requires.index, r.count, r.ends, l.items.ok.0)

pub index-end-requires : goal.index-end-requires
index-end-requires g c =
    let l = c.self.inside in
    let r = reads l.items.items l.parts c.args.list c.get-part.result c.self.invariant c.self.view_is c.requires.list c.get-part.ensures in
    omega (arith, c.requires.index, r.count, r.ends, l.items.ok.0)

pub index_mut-requires : goal.index_mut-requires
index_mut-requires g c =
    let l = c.self.inside in
    let r = reads l.items.items l.parts c.args.list c.get-part.result c.self.invariant c.self.view_is c.requires.list c.get-part.ensures in
    omega (arith, c.requires.index, r.count, r.ends, l.items.ok.0)

pub returns-clause-item : goal.returns-clause-item
returns-clause-item g c =
    let l = c.self.inside in let p = c.get-part.result in
    let r = reads l.items.items l.parts c.args.list p c.self.invariant c.self.view_is c.requires.list c.get-part.ensures in
    read_item l.items.items l.parts c.args.list p c.args.index c.index-removed.result.now r c.requires.index c.index-removed.ensures

pub returns-clause-none : goal.returns-clause-none
returns-clause-none g c =
    let l = c.self.inside in let items = l.items.items in let p = c.get-part.result in
    let r = reads items l.parts c.args.list p c.self.invariant c.self.view_is c.requires.list c.get-part.ensures in
    none-then c.moving.result c.moving.ensures.none (λ last. omega (arith, last, c.requires.index, r.count))

pub returns-clause-some : goal.returns-clause-some
returns-clause-some g c =
    let l = c.self.inside in let items = l.items.items in let p = c.get-part.result in
    let r = reads items l.parts c.args.list p c.self.invariant c.self.view_is c.requires.list c.get-part.ensures in
    let end = read_item items l.parts c.args.list p (p.len - 1) c.index-end.result.now r (omega (arith, c.requires.index, r.count)) c.index-end.ensures in
    IfSome_then c.moving.result c.moving.ensures.some (λ t is. (omega (arith, is.0, c.requires.index, r.count), λ d. is.1 ∙ end d ∙ ap (λ n. get_or (get_or c.args.self.now c.args.list []) (n - 1) d) (sym r.count)))

pub overflow_add-start : goal.overflow_add-start
overflow_add-start g c =
    let l = c.self.inside in let items = l.items.items in let p = c.get-part.result in
    let r = reads items l.parts c.args.list p c.self.invariant c.self.view_is c.requires.list c.get-part.ensures in
    omega (arith, c.requires.index, r.count, r.ends, l.items.ok.0)

pub overflow_add-start-3 : goal.overflow_add-start-3
overflow_add-start-3 g c =
    let l = c.self.inside in let items = l.items.items in let p = c.get-part.result in
    let r = reads items l.parts c.args.list p c.self.invariant c.self.view_is c.requires.list c.get-part.ensures in
    omega (arith, c.requires.index, r.count, r.ends, l.items.ok.0)

pub invariant_of-self : goal.invariant_of-self
invariant_of-self g c =
    let l = c.self.inside in let items = l.items.items in let p = c.get-part.result in
    let r = reads items l.parts c.args.list p c.self.invariant c.self.view_is c.requires.list c.get-part.ensures in
    rw (c.set.ensures, length-set items (p.start + c.args.index) c.index-end.result.now) (fewer_parts items l.parts c.args.list p c.self.invariant r.part _ refl refl refl)

pub returns-clause-lists : goal.returns-clause-lists
returns-clause-lists g c =
    let l = c.self.inside in let items = l.items.items in let p = c.get-part.result in
    let r = reads items l.parts c.args.list p c.self.invariant c.self.view_is c.requires.list c.get-part.ensures in
    rw (c.set.ensures, ← c.self.view_is)
    (without_item items l.parts c.args.list p c.self.invariant r.part c.args.index c.index-end.result.now _ _
    (omega (arith, c.requires.index, r.count)) c.index-end.ensures refl refl)

pub set-requires-clause-room : goal.set-requires-clause-room
set-requires-clause-room g c = ap (λ (p : Part). p.room) c.get-part.ensures
