use Rattle.pb_words.proofs.Common.{◌≡◌, refl, codes, app_of, flag_rule, switch_rule, with_selection}
use Rattle.pb_words.proofs.lemmas.Added.{added_app, if_added}
use Rattle.pb_words.proofs.words.options.with_selection.Goals as goal

pub returns-clause-app : goal.returns-clause-app
returns-clause-app c =
    let one = added_app _ _ _ _ (flag_rule (codes "last")) c.in_ok-arg.ensures refl c.flag.ensures.rule c.flag.ensures.local in
    let two = added_app _ _ _ _ (flag_rule (codes "from")) c.in_ok-arg-2.ensures one c.flag-2.ensures.rule c.flag-2.ensures.local in
    let three = added_app _ _ _ _ (flag_rule (codes "to")) c.in_ok-arg-3.ensures two c.flag-3.ensures.rule c.flag-3.ensures.local in
    if_added _ _ (λ d. app_of d ≡ with_selection (app_of c.args.command)) (λ d adds. added_app _ d _ _ (switch_rule (codes "ids")) adds three c.switch.ensures.rule c.switch.ensures.local) c.arg-4.ensures
