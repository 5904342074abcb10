use Rattle.pb_replay.proofs.Common.{refl, Some, err_from_is_err_and, Closing, Verdict}
use Rattle.pb_replay.proofs.lemmas.rules.Completions.{sat-ok, sat-err}
use Rattle.pb_replay.proofs.step.conclude.conclude_sat.Goals as goal

pub returns-clause-goes : goal.returns-clause-goes
returns-clause-goes c = λ written e. let s = c.in_ok-shown_value.ensures.ok in sat-ok c.args.running.now (record c.args.running.now { next = Closing; concluded = Some Verdict.Sat }) c.args.given.now written e refl s.0 s.1 (λ logged. refl)

pub returns-in_err-shown_value-clause-goes : goal.returns-in_err-shown_value-clause-goes
returns-in_err-shown_value-clause-goes c =
    let p = err_from_is_err_and c.from_residual.result c.from_residual.ensures.1 in
    rw (p.1, p.2) (λ written e. sat-err c.args.running.now c.args.running.now c.args.given.now written e _ c.in_err-shown_value.ensures.err)
