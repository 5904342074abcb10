use Rattle.pb_normal.proofs.Common.{arith, take, take-append-drop}
use Rattle.pb_normal.proofs.lemmas.terms.{KeyedTerms.AllCancel-next, KeyedTerms.AllCancel-fits, Merging.positive-read, Merging.no_entry, Totals.total-prefix}
use Rattle.pb_normal.proofs.tree.cancelled_by_list.Goals as goal

pub cancelled_by-cancelled-requires-clause-positive : goal.cancelled_by-cancelled-requires-clause-positive
cancelled_by-cancelled-requires-clause-positive c =
    positive-read 0 (take c.terms.i c.args.list.now) c.args.list.now c.terms.i no_entry _ (rw take-append-drop c.requires.list_rising) (omega arith) (c.get-term.ensures.read no_entry)

pub cancelled_by-cancelled-requires-clause-fits : goal.cancelled_by-cancelled-requires-clause-fits
cancelled_by-cancelled-requires-clause-fits c =
    omega (arith, c.requires.fits, total-prefix c.args.list.now c.terms.i no_entry c.get-term.result (omega arith) (c.get-term.ensures.read no_entry))

pub overflow_add-cancelled : goal.overflow_add-cancelled
overflow_add-cancelled c = omega (arith, c.requires.fits, AllCancel-fits c.args.terms.now c.args.list.now c.terms.i _ _ no_entry c.get-term.result c.terms.invariant (omega arith) (c.get-term.ensures.read no_entry) c.cancelled_by-cancelled.ensures)

pub terms-preserved : goal.terms-preserved
terms-preserved c =
    AllCancel-next c.args.terms.now c.args.list.now c.terms.i _ _ no_entry c.get-term.result c.terms.invariant (omega arith) (c.get-term.ensures.read no_entry) c.cancelled_by-cancelled.ensures
