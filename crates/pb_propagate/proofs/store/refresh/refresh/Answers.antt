use Rattle.pb_propagate.proofs.Common.{arith, get_or-set_other, get_or-set_same, length-set, cases_eq}
use Rattle.pb_propagate.proofs.lemmas.{engine.Propagated.shape-at, root.Retracted.refreshed-at, store.Stored.stored-idle}
use Rattle.pb_propagate.proofs.store.refresh.refresh.Goals as goal

pub returns-clause-form : goal.returns-clause-form
returns-clause-form c =
    let me = c.args.root.now in let form = c.args.form in let o = c.args.opened in let z = c.requires.sized in
    record {
      passed = grind (arith, get_or-set_same, c.requires.form, z.candidates, c.set_empty.ensures);
      calm = λ off d i.
          let same = shape-at c.args.store.now.stored.items form c.index-kept.result.now c.requires.form c.index-kept.ensures d in
          let now = rw (← c.set.ensures) at (get_or-set_same me.run.opens form o 0 (omega (arith, c.requires.form, z.opens))) in
          rw (same, now) (stored-idle c.index-kept.result.now o i (omega (arith, c.wait_below.ensures.above off, c.bound.ensures)));
    }

pub returns-clause-each : goal.returns-clause-each
returns-clause-each c =
    let z = c.requires.sized in
    grind (arith, cases_eq, refreshed-at, returns-clause-form, get_or-set_other, c.wait_below.ensures.absent, length-set, z.values, z.opens, z.candidates, z.rest_opens, z.rest_starts, z.positions, c.set.ensures, c.set-2.ensures, c.set_empty.ensures, c.set_empty-2.ensures, c.wait_below.ensures.positions, c.wait_below.ensures.older, c.requires.some)
