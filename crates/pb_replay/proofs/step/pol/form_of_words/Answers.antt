use Rattle.pb_replay.proofs.Common.{inl, inr, err_from_is_err_and}
use Rattle.pb_replay.proofs.lemmas.rules.Words.{stands_first, word_takes, word_named, word_fails, stands_next, some_form, some_fault}
use Rattle.pb_replay.proofs.step.pol.form_of_words.Goals as goal

pub loop-word-init : goal.loop-word-init
loop-word-init c = rw c.new-stack.ensures (stands_first _ _ _ _ c.args.words.now c.requires.postfix c.requires.named)

pub form_of_word-requires-clause-takes : goal.form_of_word-requires-clause-takes
form_of_word-requires-clause-takes c = word_takes _ _ _ _ _ _ _ c.loop-word-test.true c.word-item.is _ c.loop-word.invariant

pub form_of_word-requires-clause-named : goal.form_of_word-requires-clause-named
form_of_word-requires-clause-named c = word_named _ _ _ _ _ _ _ c.loop-word-test.true c.word-item.is _ c.loop-word.invariant

pub returns-in_err-form-clause-err : goal.returns-in_err-form-clause-err
returns-in_err-form-clause-err c =
    let p = err_from_is_err_and c.from_residual.result c.from_residual.ensures.1 in
    rw (p.1, p.2) (elim c.in_err-form.ensures.err [
      | inl memory ↦ inl memory
      | inr bad ↦ inr (some_fault _ _ _ _ _ c.requires.postfix (word_fails _ _ _ _ _ _ _ c.loop-word-test.true c.word-item.is _ c.loop-word.invariant _ bad))
    ])

pub loop-word-preserved : goal.loop-word-preserved
loop-word-preserved c =
    stands_next _ _ _ _ _ _ _ c.loop-word-test.true c.word-item.is _ c.loop-word.invariant c.in_ok-form.form _ _ c.in_ok-form.ensures.ok c.in_ok-form.ensures.count c.in_ok-push.ensures

pub returns-clause-ok : goal.returns-clause-ok
returns-clause-ok c = rw c.in_ok-form-2.ensures.same (some_form _ _ _ _ _ _ _ _ _ c.requires.postfix c.loop-word-test.false c.loop-word.invariant c.pop.ensures)
