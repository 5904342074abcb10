use Rattle.pb_replay.proofs.{Common.arith, Common.refl, Common.take, Common.word_names, lemmas.rules.Words.next_names, lemmas.rules.Words.prefix_in}
use Rattle.pb_replay.proofs.step.pol.number_words.Goals as goal

pub loop-word-preserved : goal.loop-word-preserved
loop-word-preserved c =
    next_names _ _ _ c.args.words.now c.loop-word.word-index c.word-item.result (omega arith) c.word-item.is c.loop-word.invariant c.in_ok-number_word.ensures.names

pub returns-in_err-number_word-clause-prefix : goal.returns-in_err-number_word-clause-prefix
returns-in_err-number_word-clause-prefix c = prefix_in _ _ _ (word_names (take c.loop-word.word-index c.args.words.now)) c.loop-word.invariant c.in_err-number_word.ensures.err

pub returns-clause-prefix : goal.returns-clause-prefix
returns-clause-prefix c = prefix_in _ _ _ (word_names (take c.loop-word.word-index c.args.words.now)) c.loop-word.invariant refl
