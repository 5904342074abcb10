use Rattle.pb_words.proofs.{Common.with_shared, lemmas.Added.added_app, lemmas.Added.added_local, lemmas.Added.if_added}
use Rattle.pb_words.proofs.Common.{◌≡◌, ◌∙◌, ap, codes, app_of_fields, app_of, new_app, Command, Command-F, checker_command, instance_rule, value_rule}
use Rattle.pb_words.proofs.words.options.checker.Goals as goal

pub with_shared-requires : goal.with_shared-requires
with_shared-requires c =
    let local = ap (λ (f : Command-F Command). f.has_globals) c.after_help.ensures ∙ (ap (λ (f : Command-F Command). f.has_globals) c.about.ensures ∙ c.new.ensures.local) in
    let one = added_local _ _ _ c.in_ok-arg.ensures local c.instance.ensures.local in
    added_local _ _ _ c.in_ok-command.ensures one c.value_argument.ensures.local

pub returns-clause-app : goal.returns-clause-app
returns-clause-app c =
    let first = ap app_of_fields c.after_help.ensures ∙ (ap app_of_fields c.about.ensures ∙ c.new.ensures.app) in
    let one = added_app _ _ _ (new_app c.args.name.now) instance_rule c.in_ok-arg.ensures first c.instance.ensures.rule c.instance.ensures.local in
    let two = added_app _ _ _ _ (value_rule (codes "proof")) c.in_ok-command.ensures one c.value_argument.ensures.rule c.value_argument.ensures.local in
    if_added _ _ (λ d. app_of d ≡ checker_command c.args.name.now) (λ d is. is ∙ ap with_shared two) c.with_shared.ensures.app
