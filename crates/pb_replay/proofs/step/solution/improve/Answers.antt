use Rattle.pb_replay.proofs.Common.{ℤ, inl, inr, subst, fits_signed_from_abs, to_z-of_z, err_from_is_err_and, w128, Demands}
use Rattle.pb_replay.proofs.lemmas.rules.Completions.{some-objective, soli-ok, soli-err}
use Rattle.pb_replay.proofs.lemmas.rules.Steps.{demands-from, proper_kept, preserves_then}
use Rattle.pb_replay.proofs.step.solution.improve.Goals as goal

pub returns-clause-goes : goal.returns-clause-goes
returns-clause-goes c = λ written e.
    let o = some-objective c.args.running.now c.requires.objective in
    soli-ok c.args.running.now c.args.given.now written e c.in_ok-value.value o.0 c.demand_less.result c.demand_less.new.running o.1 c.in_ok-value.ensures.value
    (demands-from c.args.running.now c.completion_value.new.running c.in_ok-value.ensures.same c.requires.proper c.completion_value.ensures.preserves.kept c.in_ok-value.value c.demand_less.result c.demand_less.new.running (subst (λ (z : ℤ). Demands c.completion_value.new.running z c.demand_less.result c.demand_less.new.running) (to_z-of_z w128 c.in_ok-value.value (fits_signed_from_abs w128 c.in_ok-value.value c.in_ok-value.ensures.small)) c.demand_less.ensures.demands))

pub returns-in_err-value-clause-goes : goal.returns-in_err-value-clause-goes
returns-in_err-value-clause-goes c =
    let p = err_from_is_err_and c.from_residual.result c.from_residual.ensures.1 in
    rw (p.1, p.2) (λ written e.
    let o = some-objective c.args.running.now c.requires.objective in
    elim c.in_err-value.ensures.value [
      | inl memory ↦ inl memory
      | inr bad ↦ soli-err c.args.running.now c.args.given.now written e o.0 _ c.completion_value.new.running o.1 bad
    ])

pub demand_less-requires-clause-proper : goal.demand_less-requires-clause-proper
demand_less-requires-clause-proper c = proper_kept c.args.running.now c.completion_value.new.running c.requires.proper c.completion_value.ensures.preserves.kept

pub returns-clause-preserves : goal.returns-clause-preserves
returns-clause-preserves c = preserves_then _ _ _ _ _ c.completion_value.ensures.preserves c.demand_less.ensures.preserves
