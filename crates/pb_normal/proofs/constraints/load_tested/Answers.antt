use Rattle.pb_normal.proofs.Common.{ap, arith, Err, largest, NormalFault, Fits, err_from_is_err_and}
use Rattle.pb_normal.proofs.lemmas.names.Loaded.{after_at, all_read, loaded_at, loaded_none, memory_alone}
use Rattle.pb_normal.proofs.constraints.load_tested.Goals as goal

pub loop-constraint-init : goal.loop-constraint-init
loop-constraint-init c = rw c.in_ok-forms.ensures.items (loaded_none c.args.names.now)

pub loop-constraint-preserved : goal.loop-constraint-preserved
loop-constraint-preserved c =
    loaded_at c.args.names.now c.loop-constraint.names c.add.new.names c.args.constraints.now c.loop-constraint.constraint-index c.constraint-item.result _ _ (omega arith) c.constraint-item.is c.report_distinct.ensures
    c.loop-constraint.invariant c.in_ok-add.ensures.names c.in_ok-add.ensures.forms

pub returns-in_err-add-clause-err : goal.returns-in_err-add-clause-err
returns-in_err-add-clause-err c =
    let p = err_from_is_err_and c.from_residual-in_err-add.result c.from_residual-in_err-add.ensures.1 in
    rw (p.1, p.2) (
      memory_alone _
          (λ e. c.in_err-add.ensures.overflow (ap (λ (f : NormalFault). Err f) e)
          (all_read (Fits (largest c.args.limits)) c.args.constraints.now c.loop-constraint.constraint-index c.constraint-item.result (omega arith) c.constraint-item.is c.requires)),
      after_at c.args.names.now c.loop-constraint.names c.add.new.names c.args.constraints.now c.loop-constraint.constraint-index c.constraint-item.result (omega arith) c.constraint-item.is
          c.loop-constraint.invariant.names c.in_err-add.ensures.err,
    )
