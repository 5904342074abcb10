use Rattle.pb_replay.proofs.Common.{inl, inr, length, fits_signed_from_abs, to_z-of_z, err_from_is_err_and, w128, Live, problem_of}
use Rattle.pb_replay.proofs.lemmas.rules.{Completions.apart, Completions.solx-ok, Completions.solx-err, Steps.logs-from, Steps.preserves_then}
use Rattle.pb_replay.proofs.step.solution.exclude.Goals as goal

pub clause_of-requires : goal.clause_of-requires
clause_of-requires c =
    let done = c.in_ok-value.ensures.value in
    apart (problem_of c.args.running.now) (Live c.args.running.now.constraints.forms) (length c.args.running.now.names) c.args.given.now done.0 done.1

pub returns-clause-goes : goal.returns-clause-goes
returns-clause-goes c = λ written e.
    solx-ok c.args.running.now c.args.given.now written e c.in_ok-value.value c.in_ok-clause.clause c.log.result c.log.new.running c.in_ok-value.ensures.value c.in_ok-clause.ensures.clause
    (logs-from c.args.running.now c.completion_value.new.running c.in_ok-value.ensures.same c.completion_value.ensures.preserves.kept c.in_ok-value.value c.in_ok-clause.clause c.log.result c.log.new.running (rw (to_z-of_z w128 c.in_ok-value.value (fits_signed_from_abs w128 c.in_ok-value.value c.in_ok-value.ensures.small)) at c.log.ensures.logs))

pub returns-in_err-value-clause-goes : goal.returns-in_err-value-clause-goes
returns-in_err-value-clause-goes c =
    let p = err_from_is_err_and c.from_residual.result c.from_residual.ensures.1 in
    rw (p.1, p.2) (λ written e.
    elim c.in_err-value.ensures.value [
      | inl memory ↦ inl memory
      | inr bad ↦ solx-err c.args.running.now c.args.given.now written e _ c.completion_value.new.running bad
    ])

pub returns-clause-preserves : goal.returns-clause-preserves
returns-clause-preserves c = preserves_then _ _ _ _ _ c.completion_value.ensures.preserves c.log.ensures.preserves
