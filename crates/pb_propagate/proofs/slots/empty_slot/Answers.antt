use Rattle.pb_propagate.proofs.Common.{stored_form, arith, None, length-map, forms_of}
use Rattle.pb_propagate.proofs.lemmas.store.{Changes.forms-widened, Changes.rest-widened, Gets.get-push_same}
use Rattle.pb_propagate.proofs.slots.empty_slot.Goals as goal

pub returns-clause-rest : goal.returns-clause-rest
returns-clause-rest c =
    let reported = c.in_ok-widen.ensures in let k = reported.kept in
    let forms = forms_of c.args.store.now.stored.items in
    rw (forms-widened c.args.store.now.stored.items c.widen.new.store.stored.items k.0 k.2 k.1.form)
    (rest-widened c.args.store.now c.widen.new.store c.args.clauses.now c.extend.new.self forms k.0 reported.sound k.1 k.2 c.widen.ensures.variables c.in_ok-extend.ensures.rest c.in_ok-extend.ensures.literals c.extend.ensures.lists c.requires.rest)

pub returns-clause-slot : goal.returns-clause-slot
returns-clause-slot c =
    let keep = c.args.store.now.stored in let k = c.in_ok-widen.ensures.kept in
    rw (forms-widened keep.items c.widen.new.store.stored.items k.0 k.2 k.1.form)
    (get-push_same (forms_of keep.items) c.len-slot.result None (omega (arith, c.len-slot.ensures, keep.ok.0, length-map keep.items stored_form)))
