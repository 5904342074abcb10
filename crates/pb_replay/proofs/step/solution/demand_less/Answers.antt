use Rattle.pb_replay.proofs.Common.{◌-ℤ◌, ◌≡◌, FitsSigned, pos, rules, fits_signed_from_abs, to_z-of_z, w128, ◌∙◌}
use Rattle.pb_replay.proofs.lemmas.rules.Steps.{demands-ok, logs-from, keeps_then}
use Rattle.pb_replay.proofs.step.solution.demand_less.Goals as goal

pub returns-clause-demands : goal.returns-clause-demands
returns-clause-demands c =
    let here : FitsSigned w128 c.args.value = fits_signed_from_abs w128 c.args.value c.requires.small in
    let fits : FitsSigned w128 c.below.result = search rules in
    let less : c.below.result ≡ (c.args.value -ℤ pos 1) = rw (to_z-of_z w128 c.args.value here) at c.below.ensures in
    demands-ok c.args.running.now c.log.new.running c.args.value c.in_ok-demand.demand c.log.result (rw (to_z-of_z w128 c.below.result fits, less) at c.in_ok-demand.ensures.ok)
    (logs-from c.args.running.now c.objective_form.new.running
    c.in_ok-demand.ensures.same c.objective_form.ensures.kept c.args.value c.in_ok-demand.demand c.log.result c.log.new.running (rw (to_z-of_z w128 c.args.value here) at c.log.ensures.logs))

pub log-requires-clause-linked : goal.log-requires-clause-linked
log-requires-clause-linked c = record {
  ready = rw c.objective_form.ensures.constraints c.requires.linked.ready;
  variables = rw (c.objective_form.ensures.constraints, c.in_ok-demand.ensures.same.names) c.requires.linked.variables;
  inside = rw (c.objective_form.ensures.constraints, c.in_ok-demand.ensures.same.names) c.requires.linked.inside;
}

pub returns-clause-preserves : goal.returns-clause-preserves
returns-clause-preserves c = record {
  linked = c.log.ensures.preserves.linked;
  kept = keeps_then _ _ _ c.objective_form.ensures.kept c.log.ensures.preserves.kept;
  visits = c.log.ensures.preserves.visits ∙ c.objective_form.ensures.visits;
}
