use Rattle.pb_propagate.proofs.Common.{◌∙◌, ap, arith, sym, says}
use Rattle.pb_propagate.proofs.lemmas.{engine.Propagated.shape-at, engine.Propagated.grown-by, store.Stored.stored-idle}
use Rattle.pb_propagate.proofs.engine.root.open_form.Goals as goal

pub returns-clause-work : goal.returns-clause-work
returns-clause-work c =
    let run = c.args.run.now in
    let sum = c.open_under-opened.ensures run.assignment.list.items (λ l. run.assignment.agrees l ∙ ap (λ vs. says vs l) (sym c.as_slice.ensures.value)) in
    let shape = shape-at c.args.store.now.stored.items c.args.form c.index-kept.result.now c.requires.form c.index-kept.ensures in
    let idle = stored-idle c.index-kept.result.now c.open_under-opened.result in
    grown-by c.args.form run.work.items _ (λ low d i. grind (arith, low, sum, c.bound.ensures, shape d, idle i)) c.in_ok-queue.ensures
