use Rattle.pb_words.proofs.Common.{◌∙◌, ap, Some, found_of, first_value-rows}
use Rattle.pb_words.proofs.words.file_name.Goals as goal

pub returns-in_ok-from_str-in-Some : goal.returns-in_ok-from_str-in-Some
returns-in_ok-from_str-in-Some c = ap Some c.in_ok-from_str-in-Some.ensures.ok ∙ (c.in-Some.ensures ∙ first_value-rows (found_of c.args.given.now) c.args.argument.now)

pub returns-in-None : goal.returns-in-None
returns-in-None c = c.in-None.ensures ∙ first_value-rows (found_of c.args.given.now) c.args.argument.now
