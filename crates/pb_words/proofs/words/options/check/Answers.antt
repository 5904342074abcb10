use Rattle.pb_words.proofs.Common.{◌≡◌, codes, app_of, check_command, checker_command, switch_rule}
use Rattle.pb_words.proofs.lemmas.Added.{added_app, if_added}
use Rattle.pb_words.proofs.words.options.check.Goals as goal

pub returns-clause-app : goal.returns-clause-app
returns-clause-app c =
    let one = added_app _ _ _ (checker_command (codes "check")) (switch_rule (codes "stats")) c.in_ok-arg.ensures c.in_ok-checker.ensures.app c.switch.ensures.rule c.switch.ensures.local in
    let two = added_app _ _ _ _ (switch_rule (codes "progress")) c.in_ok-arg-2.ensures one c.switch-2.ensures.rule c.switch-2.ensures.local in
    if_added _ _ (λ d. app_of d ≡ check_command) (λ d adds. added_app _ d _ _ (switch_rule (codes "explain")) adds two c.switch-3.ensures.rule c.switch-3.ensures.local) c.arg-3.ensures
