use Rattle.pb_replay.proofs.Common.{refl, Some, err_from_is_err_and, Closing, Verdict}
use Rattle.pb_replay.proofs.lemmas.{conclusions.Bounding.bounds-ok, conclusions.Bounding.bounds-err, rules.Completions.some-objective}
use Rattle.pb_replay.proofs.step.conclude.conclude_bounds.Goals as goal

pub returns-clause-goes : goal.returns-clause-goes
returns-clause-goes c = λ written e.
    let o = some-objective c.args.running.now c.requires.objective in
    bounds-ok c.args.running.now c.are_shown.new.running (record c.are_shown.new.running { next = Closing; concluded = Some (Verdict.Bounds c.args.lower c.args.upper) }) c.args.lower c.args.id c.args.upper _ written e o.0 o.1 c.in_ok-are_shown.ensures.same refl refl refl refl refl c.in_ok-are_shown.ensures.both

pub returns-in_err-are_shown-clause-goes : goal.returns-in_err-are_shown-clause-goes
returns-in_err-are_shown-clause-goes c =
    let p = err_from_is_err_and c.from_residual.result c.from_residual.ensures.1 in
    rw (p.1, p.2) (λ written e.
    let o = some-objective c.args.running.now c.requires.objective in
    bounds-err c.args.running.now c.are_shown.new.running c.are_shown.new.running c.args.lower c.args.id c.args.upper _ written e o.0 o.1 _ c.in_err-are_shown.ensures.both)
