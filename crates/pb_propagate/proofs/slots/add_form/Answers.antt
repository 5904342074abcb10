use Rattle.pb_propagate.proofs.Common.{[], arith, get_or-set_other, refl, ◌<◌, length, rules, Some, clauses_of, codes_of_terms, forms_of, shapes_of}
use Rattle.pb_propagate.proofs.lemmas.{clauses.Shapes.slots-vacant, root.Added.gained-filled}
use Rattle.pb_propagate.proofs.lemmas.store.Changes.{forms-filled, slots-bare, rest-filled, rest-watched, rest-refitted}
use Rattle.pb_propagate.proofs.slots.add_form.Goals as goal

pub fill-requires-clause-slot : goal.fill-requires-clause-slot
fill-requires-clause-slot c = (slots-bare _ _ _ _ c.requires.rest.slots c.requires.slot).inside

pub returns-clause-rest : goal.returns-clause-rest
returns-clause-rest c =
    let reported = c.in_ok-fill.ensures in let h = reported.filled in let keep = c.args.store.now.stored.items in
    rw (forms-filled keep c.fill.new.store.stored.items h.kept c.args.slot (Some c.args.form) h.keeps h.form)
    (rest-filled c.args.store.now c.fill.new.store c.plan.new.clauses (forms_of keep) c.args.form c.args.slot reported.sound c.requires.slot h c.fill.ensures.variables (rest-refitted c.args.store.now c.args.clauses.now c.plan.new.clauses (forms_of keep) c.plan.ensures.clauses c.requires.rest))

pub returns-in-Some-clause-rest : goal.returns-in-Some-clause-rest
returns-in-Some-clause-rest c =
    let planned = rw c.in-Some.is at c.in_ok-planned.ensures.planned in
    let reported = c.in_ok-watch.ensures in let k = reported.kept in let rest = c.watch.ensures.rest in
    let keep = c.args.store.now.stored.items in
    rw (forms-filled keep c.watch.new.store.stored.items k.0 c.args.slot (Some c.args.form) k.3 k.1)
    (rest-watched c.args.store.now c.watch.new.store c.plan.new.clauses c.watch.new.clauses (forms_of keep) c.args.form k.0 c.args.slot c.requires.slot k.2 k.3
    rest.0 rest.1 rest.2 planned.0.normal planned.0.clause reported.ready reported.literals reported.lists (rest-refitted c.args.store.now c.args.clauses.now c.plan.new.clauses (forms_of keep) c.plan.ensures.clauses c.requires.rest))

pub returns-clause-gained : goal.returns-clause-gained
returns-clause-gained c = search (rules, c.in_ok-fill.ensures.filled, slots-vacant, c.requires.rest.slots, c.requires.slot, gained-filled, c.fill.ensures.variables, c.plan.ensures.clauses.literals, c.plan.ensures.clauses.watches)

pub returns-in-Some-clause-gained : goal.returns-in-Some-clause-gained
returns-in-Some-clause-gained c =
    let reported = c.in_ok-watch.ensures in let same = c.plan.ensures.clauses in
    gained-filled c.args.store.now c.watch.new.store c.args.clauses.now c.watch.new.clauses c.args.slot reported.kept.0 c.watch.ensures.rest.2 reported.kept.3
    (λ s apart. rw (reported.literals, same.literals) (get_or-set_other (clauses_of c.args.clauses.now) c.args.slot s (codes_of_terms c.args.form.terms) [] apart))
    (λ e apart. rw (reported.watches.others e apart, same.watches) refl)
    (slots-vacant _ _ _ _ c.requires.rest.slots c.requires.slot) c.requires.slot c.args.form reported.kept.1

pub plan-requires-clause-slot : goal.plan-requires-clause-slot
plan-requires-clause-slot c =
    let inside : c.args.slot < length c.args.store.now.stored.items = (slots-bare _ _ _ _ c.requires.rest.slots c.requires.slot).inside in
    omega (arith, inside, c.requires.rest.known)

pub watch-requires : goal.watch-requires
watch-requires c =
    let planned = rw c.in-Some.is at c.in_ok-planned.ensures.planned in
    let same = c.plan.ensures.clauses in let keep = c.args.store.now.stored.items in
    let vacant = slots-vacant (forms_of keep) (shapes_of keep) (clauses_of c.args.clauses.now) c.args.slot c.requires.rest.slots c.requires.slot in
    let bare = slots-bare (forms_of keep) keep (clauses_of c.args.clauses.now) c.args.slot c.requires.rest.slots c.requires.slot in
    let rest = c.requires.rest in
    search (rules, same.ready, same.literals, same.lists, bare.inside, vacant.clause, rest.known, rest.widths, planned.0.codes, planned.1, planned.0.pair, c.requires.inside)
