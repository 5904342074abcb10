use Rattle.pb_replay.proofs.Common.{FitsSigned, of_z, refl, rules, Some, to_z, to_z-of_z, err_from_is_err_and, w128}
use Rattle.pb_replay.proofs.lemmas.rules.Steps.{logs-ok, logs-err}
use Rattle.pb_replay.proofs.step.solution.log.Goals as goal

pub returns-clause-logs : goal.returns-clause-logs
returns-clause-logs c =
    let fits : FitsSigned w128 c.better.result = search rules in
    logs-ok c.args.running.now (record c.add.new.running { best = Some (to_z w128 (of_z w128 c.better.result)) }) c.add.new.running.best c.args.value (to_z w128 (of_z w128 c.better.result)) c.args.form c.add.ensures.best (rw (to_z-of_z w128 c.better.result fits) (search rules)) refl (rw c.in_ok-add.was at c.add.ensures.adding)

pub returns-in_err-add-clause-logs : goal.returns-in_err-add-clause-logs
returns-in_err-add-clause-logs c =
    let p = err_from_is_err_and c.from_residual.result c.from_residual.ensures.1 in
    rw (p.1, p.2) (logs-err c.args.running.now c.add.new.running c.args.value c.args.form _ (rw c.in_err-add.was at c.add.ensures.adding))
