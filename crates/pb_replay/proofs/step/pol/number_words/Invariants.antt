use Rattle.pb_replay.proofs.Common.{◌≡◌, take, with_names, word_names}
use Rattle.pb_replay.proofs.step.pol.number_words.Given as goal

-- the names of the words so far are numbered
abbrev pub invariant-loop-word : goal.invariant-loop-word
invariant-loop-word l = l.names ≡ with_names l.initial.names (word_names (take l.word-index l.words))
