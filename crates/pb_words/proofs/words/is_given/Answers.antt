use Rattle.pb_words.proofs.{Common.◌∙◌, Common.found_of, Common.first_value-rows, lemmas.Entries.switched, lemmas.Entries.not_switched}
use Rattle.pb_words.proofs.words.is_given.Goals as goal

pub returns-in-Some : goal.returns-in-Some
returns-in-Some c = switched c.eq.result c.in-Some.text.now _ (c.in-Some.ensures ∙ first_value-rows (found_of c.args.given.now) c.args.flag.now) c.eq.ensures

pub returns-in-None : goal.returns-in-None
returns-in-None c = not_switched _ (c.in-None.ensures ∙ first_value-rows (found_of c.args.given.now) c.args.flag.now)
