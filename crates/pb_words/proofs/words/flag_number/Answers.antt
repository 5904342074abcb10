use Rattle.pb_words.proofs.{Common.◌∙◌, Common.found_of, Common.first_value-rows, lemmas.Entries.absent, lemmas.Entries.given, lemmas.Entries.outside}
use Rattle.pb_words.proofs.words.flag_number.Goals as goal

pub returns-in_default-clause-ok : goal.returns-in_default-clause-ok
returns-in_default-clause-ok c = absent c.args.low c.args.high _ (c.in_default.ensures ∙ first_value-rows (found_of c.args.given.now) c.args.flag.now)

pub returns-in-Some-number_within-clause-ok : goal.returns-in-Some-number_within-clause-ok
returns-in-Some-number_within-clause-ok c =
    given c.args.low c.args.high c.in-Some-number_within.number c.in-Some.text.now _ (c.in-Some.ensures ∙ first_value-rows (found_of c.args.given.now) c.args.flag.now)
    c.in-Some-number_within.ensures.0 c.in-Some-number_within.ensures.1

pub returns-clause-err : goal.returns-clause-err
returns-clause-err c = (
  c.in_ok-error.ensures,
  outside c.args.low c.args.high c.in-Some.text.now _ (c.in-Some.ensures ∙ first_value-rows (found_of c.args.given.now) c.args.flag.now) c.in_default-number_within.ensures,
)
