use Rattle.pb_propagate.proofs.Common.{◌∙◌, ◌≡◌, ap, arith, rules, slice_get_within, ArePlaced, forms_of, Standing, numbered, length-set}
use Rattle.pb_propagate.proofs.engine.Engine.insert.Goals.{After-empty_slot, In_ok-slot}
use Rattle.pb_propagate.proofs.lemmas.{root.Added.gained-both, root.Added.widened-length, root.Kept.gained-kept, store.Changes.forms-length}
use Rattle.pb_propagate.proofs.lemmas.store.Placed.{numbered-same, numbered-filled, numbered-grown, placed-agree, placed-filled}
use Rattle.pb_propagate.proofs.engine.Engine.insert.Goals as goal

-- the numbers have their slots still
open-places : (c : In_ok-slot) → ArePlaced (forms_of c.empty_slot.new.store.stored.items) c.self.inside.places.items
open-places c =
    let e = c.self.inside in let mid = c.empty_slot.new in
    let r = c.self.invariant (ap (λ (v : Standing). v.spent) c.self.view_is ∙ c.requires.ready) in
    let longer = widened-length e.store mid.store e.clauses mid.clauses c.in_ok-slot.slot c.in_ok-slot.ensures.widened in
    placed-agree (forms_of e.store.stored.items) (forms_of mid.store.stored.items) e.places.items c.empty_slot.ensures.forms
    (omega (arith, longer, c.if-len.false, c.len.ensures, e.store.stored.ok.0)) r.1

pub invariant_of-self-2 : goal.invariant_of-self-2
invariant_of-self-2 c = λ ready.
    let e = c.self.inside in
    let r = c.self.invariant (ap (λ (v : Standing). v.spent) c.self.view_is ∙ c.requires.ready) in
    let forms = forms_of c.empty_slot.new.store.stored.items in
    let slot = c.in_ok-slot.slot in
    let places = open-places (goal.at.invariant_of-self-2 c).In_ok-slot in
    (c.in_ok-add_form.ensures.rest, rw (c.in_ok-add_form.ensures.forms, c.in_ok-push.ensures.items) (placed-filled forms e.places.items slot c.args.form c.in_ok-slot.ensures.slot places), c.in_ok-add.ensures, gained-kept e.store c.add_form.new.store e.clauses c.add_form.new.clauses slot e.conflict r.0.slots (gained-both e.store c.empty_slot.new.store c.add_form.new.store e.clauses c.empty_slot.new.clauses c.add_form.new.clauses slot c.empty_slot.ensures.variables c.in_ok-slot.ensures.widened c.in_ok-add_form.ensures.gained) r.3)

-- no number has another form yet
same-forms : (c : After-empty_slot) → numbered (forms_of c.empty_slot.new.store.stored.items) c.self.inside.places.items ≡ c.args.self.now.forms
same-forms c = grind (arith, numbered-same, c.empty_slot.ensures.forms, c.self.view_is)

pub returns-in_err-slot-clause-unchanged : goal.returns-in_err-slot-clause-unchanged
returns-in_err-slot-clause-unchanged c = let same = same-forms (goal.at.returns-in_err-slot-clause-unchanged c).After-empty_slot in search (rules, same)

pub returns-in_err-add_form-clause-unchanged : goal.returns-in_err-add_form-clause-unchanged
returns-in_err-add_form-clause-unchanged c = grind (arith, c.in_err-add_form.ensures.refused, same-forms)

pub returns-in_err-note-clause-unchanged : goal.returns-in_err-note-clause-unchanged
returns-in_err-note-clause-unchanged c = grind (arith, open-places, same-forms, numbered-filled, c.in_ok-slot.ensures.slot, c.in_ok-add_form.ensures.forms)

pub returns-in_err-push-clause-unchanged : goal.returns-in_err-push-clause-unchanged
returns-in_err-push-clause-unchanged c = grind (arith, open-places, same-forms, numbered-filled, c.in_ok-slot.ensures.slot, c.in_ok-add_form.ensures.forms)

pub returns-in_err-add-clause-unchanged : goal.returns-in_err-add-clause-unchanged
returns-in_err-add-clause-unchanged c = grind (arith, open-places, same-forms, numbered-filled, c.in_ok-slot.ensures.slot, c.in_ok-add_form.ensures.forms)

pub returns-clause-forms : goal.returns-clause-forms
returns-clause-forms c = grind (arith, open-places, same-forms, c.in_ok-add_form.ensures.forms, numbered-grown, c.in_ok-slot.ensures.slot)

pub add-requires-clause-gained : goal.add-requires-clause-gained
add-requires-clause-gained c =
    let e = c.self.inside in
    let r = c.self.invariant (ap (λ (v : Standing). v.spent) c.self.view_is ∙ c.requires.ready) in
    let kept = c.note.ensures in
    rw (kept.0, kept.1, kept.2, kept.3) (e.store, e.clauses, r.2, gained-both e.store c.empty_slot.new.store c.add_form.new.store e.clauses c.empty_slot.new.clauses c.add_form.new.clauses c.in_ok-slot.slot c.empty_slot.ensures.variables c.in_ok-slot.ensures.widened c.in_ok-add_form.ensures.gained, c.in_ok-add_form.ensures.free)

pub note-requires-clause-slot : goal.note-requires-clause-slot
note-requires-clause-slot c = grind (arith, slice_get_within, forms-length, length-set, c.in_ok-slot.ensures.slot, c.in_ok-add_form.ensures.forms)

pub add-requires-clause-slot : goal.add-requires-clause-slot
add-requires-clause-slot c = grind (arith, slice_get_within, forms-length, length-set, c.in_ok-slot.ensures.slot, c.in_ok-add_form.ensures.forms)
