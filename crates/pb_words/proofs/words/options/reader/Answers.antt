use Rattle.pb_words.proofs.Common.{◌≡◌, ◌∙◌, ap, codes, app_of_fields, app_of, new_app, Command, Command-F, reader_command, value_rule, with_shared}
use Rattle.pb_words.proofs.lemmas.Added.{added_app, added_local, if_added}
use Rattle.pb_words.proofs.words.options.reader.Goals as goal

pub with_shared-requires : goal.with_shared-requires
with_shared-requires c =
    let local = ap (λ (f : Command-F Command). f.has_globals) c.after_help.ensures ∙ (ap (λ (f : Command-F Command). f.has_globals) c.about.ensures ∙ c.new.ensures.local) in
    added_local _ _ _ c.in_ok-command.ensures local c.value_argument.ensures.local

pub returns-clause-app : goal.returns-clause-app
returns-clause-app c =
    let first = ap app_of_fields c.after_help.ensures ∙ (ap app_of_fields c.about.ensures ∙ c.new.ensures.app) in
    let one = added_app _ _ _ (new_app c.args.name.now) (value_rule (codes "file")) c.in_ok-command.ensures first c.value_argument.ensures.rule c.value_argument.ensures.local in
    if_added _ _ (λ d. app_of d ≡ reader_command c.args.name.now) (λ d is. is ∙ ap with_shared one) c.with_shared.ensures.app
