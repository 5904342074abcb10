use Rattle.std.proofs.Common.{rules, ◌^◌, ◌+◌, ◌*◌, ◌<◌, ◌∙◌, ap, arith, refl, sym}
use Rattle.pb_propagate.proofs.lemmas.engine.Advances.{on-err}
use Rattle.pb_propagate.specs.declared.parts.Part.{Part}
use Rattle.pb_propagate.proofs.lemmas.Spans.{changed_parts, count_is, next_low, part_is, room_changed, same_parts, stored_changed, stored_padded}
use Rattle.std.proofs.lemmas.List.{get_or_read}
use Rattle.pb_propagate.proofs.parts.Parts.put.Goals as goal

pub reach-requires : goal.reach-requires
reach-requires c =
    let p = c.self.inside in
    omega (arith, c.requires.list, count_is p.spans.items p.exponents.items p.count c.self.view_is, c.self.ranges)

pub returns-in_err-reach-clause-err : goal.returns-in_err-reach-clause-err
returns-in_err-reach-clause-err c =
    let p = c.self.inside in
    on-err _ (same_parts p.spans.items p.exponents.items p.spans.items c.reach.new.items.items p.count c.self.view_is (λ k. refl) c.reach.ensures.padded.same)

pub invariant_of-self-in_err-reach-2 : goal.invariant_of-self-in_err-reach-2
invariant_of-self-in_err-reach-2 c =
    let p = c.self.inside in
    let low : c.args.list < p.count = omega (arith, c.requires.list, count_is p.spans.items p.exponents.items p.count c.self.view_is) in
    stored_padded p.spans.items p.exponents.items p.count c.self.invariant c.reach-2.new.items.items c.reach.new.items.items c.args.list c.reach-2.ensures.padded c.reach.ensures.padded c.in_ok-reach.ensures.ok low

pub returns-in_err-reach-2-clause-err : goal.returns-in_err-reach-2-clause-err
returns-in_err-reach-2-clause-err c =
    let p = c.self.inside in
    on-err _ (same_parts p.spans.items p.exponents.items c.reach-2.new.items.items c.reach.new.items.items p.count c.self.view_is c.reach-2.ensures.padded.same c.reach.ensures.padded.same)

pub overflow_add-index_mut : goal.overflow_add-index_mut
overflow_add-index_mut c = omega (arith, get_or_read c.reach.new.items.items c.args.list c.index_mut-2.result.now c.in_ok-reach.ensures.ok c.index_mut-2.ensures.value 0, c.reach.ensures.padded.same c.args.list, c.self.invariant.low c.args.list)

pub invariant_of-self-2 : goal.invariant_of-self-2
invariant_of-self-2 c =
    let p = c.self.inside in let spans = p.spans.items in let exponents = p.exponents.items in let i = c.args.list in
    let longer = c.reach-2.new.items.items in let more = c.reach.new.items.items in let x = c.index_mut-2.result.now in
    let low : i < p.count = omega (arith, c.requires.list, count_is spans exponents p.count c.self.view_is) in
    let same = ap (λ (q : Part). 2 * q.room + 1) (sym (part_is spans exponents p.count i c.self.view_is c.requires.list)) in
    let fits : c.args.part.room < 2 ^ 32 = search rules in
    let bound = next_low spans exponents p.count c.self.invariant longer more i c.reach-2.ensures.padded c.reach.ensures.padded c.in_ok-reach.ensures.ok low c.args.part x c.index_mut-2.ensures.value fits (c.requires.room ∙ same) in
    stored_changed spans exponents p.count c.self.invariant longer more i c.reach-2.ensures.padded c.reach.ensures.padded c.in_ok-reach.ensures.ok low _ (x + 1) c.in_ok-reach-2.ensures.ok bound

pub returns-clause-ok : goal.returns-clause-ok
returns-clause-ok c =
    let p = c.self.inside in let spans = p.spans.items in let exponents = p.exponents.items in let i = c.args.list in
    let longer = c.reach-2.new.items.items in let more = c.reach.new.items.items in let x = c.index_mut-2.result.now in
    let low : i < p.count = omega (arith, c.requires.list, count_is spans exponents p.count c.self.view_is) in
    let same = ap (λ (q : Part). 2 * q.room + 1) (sym (part_is spans exponents p.count i c.self.view_is c.requires.list)) in
    (changed_parts spans exponents _ _ p.count i c.args.part c.self.view_is c.requires.list
    (room_changed spans exponents p.count c.self.invariant longer more i c.reach-2.ensures.padded c.reach.ensures.padded c.in_ok-reach.ensures.ok low c.args.part x c.in_ok-reach-2.ensures.ok c.index_mut-2.ensures.value (c.requires.room ∙ same)))
