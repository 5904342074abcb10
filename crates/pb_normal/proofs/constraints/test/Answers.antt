use Rattle.pb_normal.proofs.Common.{arith, List, subst, take_all, All-nil, All-push, Linear, take_read, largest, Fits, All}
use Rattle.pb_normal.proofs.constraints.test.Goals as goal

pub loop-tested-init : goal.loop-tested-init
loop-tested-init c = All-nil (λ (x : Linear). Fits (largest c.args.limits) x)

pub loop-tested-preserved : goal.loop-tested-preserved
loop-tested-preserved c =
    let x = c.tested-item.result in
    rw (take_read c.args.constraints.now c.loop-tested.tested-index x x (omega arith) c.tested-item.is)
    (All-push (λ (y : Linear). Fits (largest c.args.limits) y) _ x c.loop-tested.invariant (c.fits.ensures.0 c.if-not-fits.false))

pub returns-clause-ok : goal.returns-clause-ok
returns-clause-ok c =
    subst (λ (xs : List Linear). All (λ (y : Linear). Fits (largest c.args.limits) y) xs) (take_all c.loop-tested.tested-index c.args.constraints.now (omega arith)) c.loop-tested.invariant
