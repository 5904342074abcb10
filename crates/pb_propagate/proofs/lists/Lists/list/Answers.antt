use Rattle.std.proofs.Common.{◌+◌, ◌-◌, ◌∙◌, ◌≡◌, arith, ap₂, drop, rules, sym, take}
use Rattle.pb_propagate.proofs.lemmas.Parts.{part_count, reads}
use Rattle.pb_propagate.proofs.lists.Lists.list.Goals as goal

pub get-part-requires : goal.get-part-requires
get-part-requires g c =
    let l = c.self.inside in
    omega (arith, part_count l.items.items l.parts c.self.view_is, c.requires)

pub offset_bounds-deref-start : goal.offset_bounds-deref-start
offset_bounds-deref-start g c =
    let l = c.self.inside in
    let r = reads l.items.items l.parts c.args.list c.get-part.result c.self.invariant c.self.view_is c.requires c.get-part.ensures in
    rw c.deref.ensures.value (omega (arith, r.ends))

pub slice_bounds-result-end : goal.slice_bounds-result-end
slice_bounds-result-end g c =
    let l = c.self.inside in
    let r = reads l.items.items l.parts c.args.list c.get-part.result c.self.invariant c.self.view_is c.requires c.get-part.ensures in
    search (rules, r.ends, c.deref.ensures.value)

pub returns : goal.returns
returns g c =
    let l = c.self.inside in let p = c.get-part.result in
    let r = reads l.items.items l.parts c.args.list p c.self.invariant c.self.view_is c.requires c.get-part.ensures in
    let long : p.start + p.len - p.start ≡ p.len = omega arith in
    ap₂ (λ n xs. take n (drop p.start xs)) long c.deref.ensures.value ∙ sym r.items_are
