use Rattle.pb_words.proofs.Common.{◌≡◌, refl, codes, app_of, flag_rule, switch_rule, with_shared}
use Rattle.pb_words.proofs.lemmas.Added.{added_app, if_added}
use Rattle.pb_words.proofs.words.options.with_shared.Goals as goal

pub returns-clause-app : goal.returns-clause-app
returns-clause-app c =
    let one = added_app _ _ _ _ (flag_rule (codes "longest")) c.in_ok-arg.ensures refl c.flag.ensures.rule c.flag.ensures.local in
    let two = added_app _ _ _ _ (flag_rule (codes "bits")) c.in_ok-arg-2.ensures one c.flag-2.ensures.rule c.flag-2.ensures.local in
    if_added _ _ (λ d. app_of d ≡ with_shared (app_of c.args.command)) (λ d adds. added_app _ d _ _ (switch_rule (codes "quiet")) adds two c.switch.ensures.rule c.switch.ensures.local) c.arg-3.ensures
