use Rattle.pb_propagate.proofs.lemmas.engine.Advances.{on-err}
use Rattle.pb_propagate.specs.engine.Parts.{lists_of}
use Rattle.pb_propagate.specs.declared.parts.Part.{Part}
use Rattle.std.proofs.Common.{◌+◌, ◌*◌, ◌∙◌, ap, arith, length, length-append, sym}
use Rattle.pb_propagate.proofs.lemmas.Parts.{longer_parts, moved_list, moved_parts, part_count, reads}
use Rattle.pb_propagate.proofs.lists.Lists.push_moved.Goals as goal

pub get-part-requires : goal.get-part-requires
get-part-requires g c =
    let l = c.self.inside in
    omega (arith, part_count l.items.items l.parts c.self.view_is, c.requires)

pub moved-requires : goal.moved-requires
moved-requires g c =
    let l = c.self.inside in
    let r = reads l.items.items l.parts c.args.list c.get-part.result c.self.invariant c.self.view_is c.requires c.get-part.ensures in
    record { part = r.within }

pub invariant_of-self : goal.invariant_of-self
invariant_of-self g c =
    let l = c.self.inside in let more = c.moved.ensures.longer in
    rw more.1 ((longer_parts l.items.items more.0 l.parts c.self.invariant).0)

pub returns-in_err-new-clause-err : goal.returns-in_err-new-clause-err
returns-in_err-new-clause-err g c =
    let l = c.self.inside in let more = c.moved.ensures.longer in
    on-err _ (ap (λ xs. lists_of xs l.parts) more.1 ∙ ((longer_parts l.items.items more.0 l.parts c.self.invariant).1 ∙ c.self.view_is))

pub returns-in_err-put-clause-err : goal.returns-in_err-put-clause-err
returns-in_err-put-clause-err g c =
    let l = c.self.inside in let more = c.moved.ensures.longer in
    on-err _ (ap (lists_of c.moved.new.items.items) c.in_err-put.ensures.err ∙ (ap (λ xs. lists_of xs l.parts) more.1 ∙ ((longer_parts l.items.items more.0 l.parts c.self.invariant).1 ∙ c.self.view_is)))

pub invariant_of-self-2 : goal.invariant_of-self-2
invariant_of-self-2 g c =
    let l = c.self.inside in let items = l.items.items in let p = c.get-part.result in
    let r = reads items l.parts c.args.list p c.self.invariant c.self.view_is c.requires c.get-part.ensures in
    let n = c.in_ok-new.ensures.part in
    rw c.in_ok-put.ensures.ok
    (moved_parts items l.parts c.args.list p c.self.invariant r.part _ c.in_ok-new.new (omega (arith, ap length c.moved.ensures.longer.1, length-append items c.moved.ensures.longer.0)) n.1 n.0)

pub returns-clause-position : goal.returns-clause-position
returns-clause-position g c =
    let l = c.self.inside in
    let r = reads l.items.items l.parts c.args.list c.get-part.result c.self.invariant c.self.view_is c.requires c.get-part.ensures in
    sym r.count

pub returns-clause-ok : goal.returns-clause-ok
returns-clause-ok g c =
    let l = c.self.inside in let items = l.items.items in let p = c.get-part.result in
    let r = reads items l.parts c.args.list p c.self.invariant c.self.view_is c.requires c.get-part.ensures in
    let n = c.in_ok-new.ensures.part in let more = c.moved.ensures.longer in
    rw (c.in_ok-put.ensures.ok, ← c.self.view_is, more.1)
    (moved_list items l.parts c.args.list p c.self.invariant r.part more.0 c.in_ok-new.new c.args.item (rw (← more.1) n.3))

pub put-requires-clause-room : goal.put-requires-clause-room
put-requires-clause-room g c =
    c.in_ok-new.ensures.part.2 ∙ ap (λ (p : Part). 2 * p.room + 1) c.get-part.ensures
