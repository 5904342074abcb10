use Rattle.pb_replay.proofs.Common.{◌∙◌}
use Rattle.pb_replay.proofs.lemmas.rules.Words.{axiom_made, weaken_made, saturate_made, add_fails}
use Rattle.pb_replay.proofs.step.pol.form_of_word.Goals as goal

pub returns-in_ok-axiom-in-Axiom-clause-ok : goal.returns-in_ok-axiom-in-Axiom-clause-ok
returns-in_ok-axiom-in-Axiom-clause-ok c =
    axiom_made _ _ _ _ _ _ _ _ _ c.in-Axiom.is c.as_str.ensures c.number_of-variable.ensures (c.made.ensures.same ∙ c.in_ok-axiom-in-Axiom.ensures.axiom)

pub returns-in-Add-clause-err : goal.returns-in-Add-clause-err
returns-in-Add-clause-err c =
    add_fails _ _ _ c.sum_of.result _ _ _ _ _ _ c.in-Add.is c.pop-right.ensures c.pop-left.ensures c.sum_of.ensures.err

pub returns-in-Weaken-clause-ok : goal.returns-in-Weaken-clause-ok
returns-in-Weaken-clause-ok c =
    weaken_made _ _ _ _ _ _ _ _ _ _ _ c.in-Weaken.is c.pop-form-in-Weaken.ensures c.as_str-in-Weaken.ensures c.number_of.ensures c.weakening_of.ensures.ok

pub returns-in-Saturate-clause-ok : goal.returns-in-Saturate-clause-ok
returns-in-Saturate-clause-ok c = saturate_made _ _ _ _ _ _ _ _ c.in-Saturate.is c.pop-form-in-Saturate.ensures c.saturation_of.ensures.ok
