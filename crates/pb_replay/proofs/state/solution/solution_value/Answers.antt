use Rattle.pb_replay.proofs.Common.{◌∙◌, FitsSigned, inr, fits_signed_from_abs, to_z-of_z, err_from_is_err_and, w128, problem_of}
use Rattle.pb_replay.proofs.lemmas.rules.Completions.{judged-ok, judged-err}
use Rattle.pb_replay.proofs.state.solution.solution_value.Goals as goal

pub returns-clause-value : goal.returns-clause-value
returns-clause-value c =
    let fits : FitsSigned w128 c.objective_value.result = fits_signed_from_abs w128 c.objective_value.result c.objective_value.ensures.small in
    judged-ok (problem_of c.args.running.now) c.args.names c.args.given.now c.in_ok-values.values.items _ _ c.in_ok-values.ensures.ok (rw (c.in_ok-all_hold.was, c.as_slice.ensures.value) at c.all_hold.ensures)
    (to_z-of_z w128 c.objective_value.result fits ∙ (rw c.as_slice-2.ensures.value at c.objective_value.ensures.value))

pub returns-in_err-all_hold-clause-value : goal.returns-in_err-all_hold-clause-value
returns-in_err-all_hold-clause-value c =
    let p = err_from_is_err_and c.from_residual-in_err-all_hold.result c.from_residual-in_err-all_hold.ensures.1 in
    rw (p.1, p.2) (inr (judged-err (problem_of c.args.running.now) c.args.names c.args.given.now c.in_ok-values.values.items _ c.in_ok-values.ensures.ok (rw (c.in_err-all_hold.was, c.as_slice.ensures.value) at c.all_hold.ensures)))
