use Rattle.pb_c.proofs.Common.{◌≡◌, Option, refl, rules, Some, subst, sym, Session, AnswersHeld}
use Rattle.pb_c.proofs.checker.pb_checker_held.Goals as goal

pub returns-clause-held : goal.returns-clause-held
returns-clause-held c =
    let held : c.args.checker.now.value ≡ Some c.deref.result.now = search rules in
    subst (λ (x : Option Session). AnswersHeld x 0 c.args.held.now c.held.result) (sym held) (refl, c.held.ensures.held, c.held.ensures.few)
