use Rattle.pb_propagate.proofs.{lemmas.store.Placed.placed-left, lemmas.store.Placed.taken-by, rulesets.Engine.engine}
use Rattle.pb_propagate.proofs.Common.{◌<◌, ap, arith, length, forms_of, Standing}
use Rattle.pb_propagate.proofs.lemmas.{root.Added.lost-rooted, root.Kept.lost-kept, store.Changes.forms-length, store.Placed.numbered-length}
use Rattle.pb_propagate.proofs.engine.Engine.take.Goals as goal

pub invariant_of-self : goal.invariant_of-self
invariant_of-self c = λ ready.
    let e = c.self.inside in
    let r = c.self.invariant ready in
    let inside : c.args.number < length e.places.items = omega (arith, c.requires.number, ap (λ (v : Standing). length v.forms) c.self.view_is, numbered-length (forms_of e.store.stored.items) e.places.items) in
    let t = taken-by (forms_of e.store.stored.items) e.places.items c.args.number c.index.result.now inside c.index.ensures (omega (arith, c.if-slot-len.false, c.len.ensures, e.store.stored.ok.0, forms-length e.store.stored.items)) r.1 in
    let room : c.index.result.now < length e.store.stored.items = omega (arith, c.if-slot-len.false, c.len.ensures, e.store.stored.ok.0) in (
      c.remove_form-form.ensures.rest,
      rw c.remove_form-form.ensures.forms (placed-left (forms_of e.store.stored.items) e.places.items c.args.number c.index.result.now t r.1),
      lost-rooted e.store c.remove_form-form.new.store e.clauses c.remove_form-form.new.clauses c.index.result.now c.remove.new.self room (omega (arith, room, r.0.known)) c.remove_form-form.ensures.rest.ready c.remove_form-form.ensures.vacated c.remove.ensures,
      lost-kept e.store c.remove_form-form.new.store e.clauses c.remove_form-form.new.clauses c.index.result.now c.remove-2.new.self c.remove_form-form.ensures.vacated c.remove-2.ensures.spare c.remove-2.ensures.unbroken c.remove-2.ensures.kept,
    )

pub index-requires : goal.index-requires
index-requires c = grind (arith, numbered-length)

pub index_mut-requires : goal.index_mut-requires
index_mut-requires c = grind (arith, numbered-length)

pub returns-then-slot-len-clause-forms : goal.returns-then-slot-len-clause-forms
returns-then-slot-len-clause-forms c = grind (arith, engine)

pub returns-clause-forms : goal.returns-clause-forms
returns-clause-forms c = grind (arith, engine)
