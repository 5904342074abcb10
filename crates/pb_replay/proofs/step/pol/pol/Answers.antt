use Rattle.pb_replay.proofs.{Common.arith, lemmas.meaning.Assigned.words_named, lemmas.rules.Steps.pol-inside, lemmas.rules.Steps.pol-goes}
use Rattle.pb_replay.proofs.step.pol.pol.Goals as goal

pub form_of_words-requires-clause-named : goal.form_of_words-requires-clause-named
form_of_words-requires-clause-named c =
    words_named _ _ _ _ c.args.words.now c.in_default.ensures.names c.as_slice.ensures c.as_slice-2.ensures

pub add-requires-clause-inside : goal.add-requires-clause-inside
add-requires-clause-inside c =
    pol-inside c.args.running.now c.number_words.new.names c.widen.new.constraints.forms _ c.as_slice-2.result.now c.in_ok-form.form c.requires.ready.linked c.in_default.ensures.prefix c.in_ok-widen.ensures.live.forms
    (words_named _ _ _ _ c.args.words.now c.in_default.ensures.names c.as_slice.ensures c.as_slice-2.ensures) c.in_ok-form.ensures.ok

pub returns-clause-goes : goal.returns-clause-goes
returns-clause-goes c = grind (arith, pol-goes, c.as_slice.ensures, c.in_default.ensures.names, c.in_ok-widen.ensures.live.forms, c.as_slice-2.ensures, c.add.ensures.best, c.in_ok-form.ensures.ok, c.add.ensures.adding)
