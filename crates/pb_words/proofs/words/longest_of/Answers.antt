use Rattle.pb_words.proofs.words.longest_of.Goals as goal

pub returns-clause-ok : goal.returns-clause-ok
returns-clause-ok c = c.flag_number.ensures.ok

pub returns-clause-err : goal.returns-clause-err
returns-clause-err c = c.flag_number.ensures.err
