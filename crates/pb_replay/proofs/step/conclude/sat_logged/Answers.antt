use Rattle.pb_replay.proofs.{Common.◌≡◌, Common.inl, Common.is_some, Common.refl, Common.rules, Common.true, lemmas.rules.Completions.logged-some}
use Rattle.pb_replay.proofs.step.conclude.sat_logged.Goals as goal

pub returns-clause-goes : goal.returns-clause-goes
returns-clause-goes c =
    let some : is_some c.args.running.now.best ≡ true = search rules in
    λ logged best. (logged, best, inl (logged-some logged c.args.running.now.best some best, refl))
