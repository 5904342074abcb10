use Rattle.pb_replay.proofs.Common.{err_from_is_err_and, Live, problem_of}
use Rattle.pb_replay.proofs.lemmas.rules.Completions.{own-conflict, own-value, completed-value}
use Rattle.pb_replay.proofs.step.shown.own_value.Goals as goal

pub returns : goal.returns
returns c =
    own-value (problem_of c.args.running.now) c.in_ok-copies.copies.forms c.in_ok-copies.ensures.live.forms c.args.running.now.own c.args.given.now c.solution_value.result
    (completed-value (problem_of c.args.running.now) (Live c.in_ok-copies.copies.forms) c.args.running.now.own c.args.given.now c.in_ok-values.values.items c.in_ok-values.ensures.free c.in_ok-values.ensures.list c.solution_value.result (rw c.as_slice.ensures.value at c.solution_value.ensures.value))

pub returns-in_err-values : goal.returns-in_err-values
returns-in_err-values c =
    let p = err_from_is_err_and c.from_residual-in_err-values.result c.from_residual-in_err-values.ensures.1 in
    rw (p.1, p.2) (own-conflict (problem_of c.args.running.now) c.in_ok-copies.copies.forms c.in_ok-copies.ensures.live.forms c.args.running.now.own c.args.given.now _ c.in_err-values.ensures.err)
