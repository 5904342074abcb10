use Rattle.pb_replay.proofs.Common.{◌∙◌, ap, arith, Err, List, magnitude, objective_of, Option, Problem, Term}
use Rattle.pb_replay.proofs.lemmas.rules.Steps.{opened_ok, opened_err}
use Rattle.pb_replay.proofs.state.load.load_instance.Goals as goal

pub returns-clause-ok : goal.returns-clause-ok
returns-clause-ok c = record {
  opened = rw c.started.ensures.problem (opened_ok _ c.args.instance.now _ _ _ _ _ c.as_slice.ensures c.in-Ok.ensures.terms (rw c.with_hasher-names.ensures at c.in-Ok.ensures.names) c.in-Ok-load.ensures.names c.in-Ok-load.ensures.fits c.in-Ok.ensures.fits c.in-Ok-load.ensures.forms);
  first = c.started.ensures.first;
  fits =
      let same = ap (λ (p : Problem). magnitude (objective_of p.objective)) c.started.ensures.problem ∙ ap (λ (o : Option (List Term)). magnitude (objective_of o)) c.in-Ok.ensures.terms in
      omega (arith, same, c.in-Ok.ensures.fits);
}

pub returns-in-Err-load-clause-err : goal.returns-in-Err-load-clause-err
returns-in-Err-load-clause-err c =
    opened_err _ c.args.instance.now _ c.in-Err-load.fault _ c.as_slice.ensures c.from-in-Err-load.ensures (λ e. c.in-Err-load.ensures.overflow (ap Err e))
