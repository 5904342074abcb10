use Rattle.pb_words.proofs.{Common.texts, Common.found_of, Common.rows_of, lemmas.NoHelp.reader_named}
use Rattle.pb_words.proofs.lemmas.Parsed.{always_ok, asked_by_entry, explained_by_clap, explained_by_entry, explained_by_memory, named_entry, right_words}
use Rattle.pb_words.proofs.words.read_words.Goals as goal

pub job_of-requires : goal.job_of-requires
job_of-requires c =
    reader_named (texts c.args.words.now) (c.in-Some.name.now, rows_of (found_of c.in-Some.given.now))
    (right_words _ _ c.in_ok-command.ensures.ok c.in_ok-matches.ensures.kinds)
    (named_entry _ _ _ (texts c.args.words.now) c.in-Some.name.now (rows_of (found_of c.in-Some.given.now)) c.in_ok-command.ensures.ok c.in_ok-matches.ensures.matches c.in-Some.ensures.name c.in-Some.ensures.rows)

pub returns-clause-right : goal.returns-clause-right
returns-clause-right c = always_ok _ _ (right_words _ _ c.in_ok-command.ensures.ok c.in_ok-matches.ensures.kinds)

pub returns-clause-fault : goal.returns-clause-fault
returns-clause-fault c =
    explained_by_entry (texts c.args.words.now) c.in-Some.name.now (rows_of (found_of c.in-Some.given.now)) _
    (right_words _ _ c.in_ok-command.ensures.ok c.in_ok-matches.ensures.kinds)
    (named_entry _ _ _ (texts c.args.words.now) c.in-Some.name.now (rows_of (found_of c.in-Some.given.now)) c.in_ok-command.ensures.ok c.in_ok-matches.ensures.matches c.in-Some.ensures.name c.in-Some.ensures.rows)
    c.job_of.ensures.err

pub returns-in_err-matches-clause-fault : goal.returns-in_err-matches-clause-fault
returns-in_err-matches-clause-fault c =
    explained_by_clap _ _ c.in_err-matches.field-0.0 _ c.in_ok-command.ensures.ok c.in_err-matches.ensures.kinds c.from_residual-in_err-matches.ensures.1

pub returns-clause-job : goal.returns-clause-job
returns-clause-job c =
    asked_by_entry (texts c.args.words.now) c.in-Some.name.now (rows_of (found_of c.in-Some.given.now)) _
    (named_entry _ _ _ (texts c.args.words.now) c.in-Some.name.now (rows_of (found_of c.in-Some.given.now)) c.in_ok-command.ensures.ok c.in_ok-matches.ensures.matches c.in-Some.ensures.name c.in-Some.ensures.rows)
    c.job_of.ensures.ok

pub returns-in_err-command-clause-fault : goal.returns-in_err-command-clause-fault
returns-in_err-command-clause-fault c = explained_by_memory (texts c.args.words.now) c.in_err-command.field-0.0 _ c.in_err-command.ensures.err c.from_residual.ensures.1
