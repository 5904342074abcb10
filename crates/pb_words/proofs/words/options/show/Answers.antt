use Rattle.pb_words.proofs.words.options.show.Goals as goal

pub returns-clause-app : goal.returns-clause-app
returns-clause-app c = c.reader.ensures.app

pub returns-clause-local : goal.returns-clause-local
returns-clause-local c = c.reader.ensures.local
