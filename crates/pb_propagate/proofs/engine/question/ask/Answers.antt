use Rattle.pb_propagate.proofs.{Common.arith, Common.slice_get, Common.forms_of, lemmas.engine.Rests.listed-few, lemmas.store.Options.some-one}
use Rattle.pb_propagate.proofs.engine.question.ask.Goals as goal

pub returns-clause-most : goal.returns-clause-most
returns-clause-most c =
    let waiting = c.args.root.now.waiting in
    let few = listed-few (forms_of c.args.store.now.stored.items) waiting.list.items (λ i j s h k. some-one (slice_get waiting.positions s) i j (waiting.positioned i s h) (waiting.positioned j s k)) c.requires.standing.rooted.live in
    omega (arith, few, c.question-answer.ensures.most, c.replace.ensures.value)
