use Rattle.pb_replay.proofs.Common.{length, Live, problem_of, arith}
use Rattle.pb_replay.proofs.lemmas.rules.Completions.{completed-value, conflicting-value}
use Rattle.pb_replay.proofs.step.solution.completion_value.Goals as goal

pub returns-clause-value : goal.returns-clause-value
returns-clause-value c =
    completed-value (problem_of c.args.running.now) (Live c.args.running.now.constraints.forms) (length c.args.running.now.names) c.args.given.now c.in_ok-values.values.items c.in_ok-values.ensures.free c.in_ok-values.ensures.list c.solution_value.result (rw (c.as_slice.ensures.value, c.len.ensures.length, c.completion.ensures.loaded) at c.solution_value.ensures.value)

pub returns-in_err-values-clause-value : goal.returns-in_err-values-clause-value
returns-in_err-values-clause-value c = grind (arith, c.from_residual.ensures.1, conflicting-value, c.in_err-values.ensures.err)
