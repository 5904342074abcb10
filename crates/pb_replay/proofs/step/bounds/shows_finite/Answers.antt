use Rattle.pb_replay.proofs.Common.{◌≡◌, false, FitsSigned, rules, true, to_z-of_z, err_from_is_err_and, w128, IsBelow, arith}
use Rattle.pb_replay.proofs.lemmas.conclusions.Bounding.{lower-late, lower-missing, lower-found}
use Rattle.pb_replay.proofs.lemmas.rules.Steps.{is_so, not_so}
use Rattle.pb_replay.proofs.step.bounds.shows_finite.Goals as goal

pub returns-then-not-is_below_best-clause-lower : goal.returns-then-not-is_below_best-clause-lower
returns-then-not-is_below_best-clause-lower c =
    let fits : FitsSigned w128 c.args.bound = search rules in let late : c.is_below_best.result ≡ false = search rules in
    lower-late c.args.running.now c.args.bound c.args.id (not_so c.is_below_best.result (IsBelow c.args.running.now.best c.args.bound) late (rw (to_z-of_z w128 c.args.bound fits) at c.is_below_best.ensures))

pub returns-clause-lower : goal.returns-clause-lower
returns-clause-lower c = grind (arith, is_so, to_z-of_z, c.is_below_best.ensures, c.in_ok-is_found.ensures.ok, lower-found, c.objective_shown.ensures.shown)

pub returns-in_err-is_found-clause-lower : goal.returns-in_err-is_found-clause-lower
returns-in_err-is_found-clause-lower c =
    let p = err_from_is_err_and c.from_residual.result c.from_residual.ensures.1 in
    rw (p.1, p.2) (let fits : FitsSigned w128 c.args.bound = search rules in
    let yes : c.is_below_best.result ≡ true = search rules in
    let low = is_so c.is_below_best.result (IsBelow c.args.running.now.best c.args.bound) yes (rw (to_z-of_z w128 c.args.bound fits) at c.is_below_best.ensures) in
    lower-missing c.args.running.now c.args.bound c.args.id low _ c.in_err-is_found.ensures.err)
