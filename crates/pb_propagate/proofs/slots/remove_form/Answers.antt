use Rattle.pb_propagate.proofs.Common.{stored_form, arith, None, length-map, forms_of}
use Rattle.pb_propagate.proofs.lemmas.store.Changes.{forms-filled, rest-removed}
use Rattle.pb_propagate.proofs.slots.remove_form.Goals as goal

pub returns-clause-rest : goal.returns-clause-rest
returns-clause-rest c =
    let reported = c.clear_slot.ensures in let k = reported.kept in let keep = c.args.store.now.stored.items in
    rw (forms-filled keep c.clear_slot.new.store.stored.items k.0 c.args.slot None k.2 k.1.form)
    (rest-removed c.args.store.now c.clear_slot.new.store c.args.clauses.now c.empty.new.self (forms_of keep) k.0 c.args.slot (omega (arith, c.requires.slot, length-map keep stored_form)) reported.sound k.1 k.2 reported.variables c.empty.ensures.rest c.empty.ensures.literals c.empty.ensures.lists c.requires.rest)
