use Rattle.pb_replay.proofs.Common.{inr, ok_or_err, refl, sym, err_from_is_err_and, state_of}
use Rattle.pb_replay.proofs.lemmas.conclusions.Bounding.{left-moves}
use Rattle.pb_replay.proofs.step.conclude.unsat.Goals as goal

pub returns-clause-goes : goal.returns-clause-goes
returns-clause-goes c = λ logged best.
    (logged, best, left-moves _ _ (λ e is. ok_or_err is) (state_of c.args.running.now logged) c.args.id _ (λ is. refl) (rw c.in_ok-none_is_left.was at (c.none_is_left.ensures.left logged best)))

pub returns-in_err-none_is_left-clause-goes : goal.returns-in_err-none_is_left-clause-goes
returns-in_err-none_is_left-clause-goes c =
    let p = err_from_is_err_and c.from_residual.result c.from_residual.ensures.1 in
    rw (p.1, p.2) (inr (λ logged best. left-moves _ _ (λ e is. cc) (state_of c.args.running.now logged) c.args.id _ (λ is. ok_or_err (sym is)) (rw c.in_err-none_is_left.was at (c.none_is_left.ensures.left logged best))))
