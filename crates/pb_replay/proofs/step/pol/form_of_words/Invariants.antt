use Rattle.pb_replay.proofs.{Common.largest, Common.top_of, lemmas.rules.Words.Standing}
use Rattle.pb_replay.proofs.step.pol.form_of_words.Given as goal

-- the result of the rest is the result of the whole
abbrev pub invariant-loop-word : goal.invariant-loop-word
invariant-loop-word l = Standing (largest l.limits) (top_of l.limits) l.names l.constraints.forms l.words l.word-index l.stack
