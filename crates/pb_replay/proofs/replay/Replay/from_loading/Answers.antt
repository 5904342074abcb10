use Rattle.pb_replay.proofs.{Common.refl, lemmas.rules.Steps.ready_first}
use Rattle.pb_replay.proofs.replay.Replay.from_loading.Goals as goal

pub invariant_of-result : goal.invariant_of-result
invariant_of-result c =
    let (v, order) = c.requires.order in
    record { ready = λ none. ready_first c.args.loading.0 v c.in_ok-running.running (c.in_ok-running.ensures.ok v order); reported = λ n e. let bad = e in cc }

pub returns-clause-running : goal.returns-clause-running
returns-clause-running c = refl

pub returns-clause-opened : goal.returns-clause-opened
returns-clause-opened c = λ v order. (c.in_ok-running.ensures.ok v order).loaded.opened
