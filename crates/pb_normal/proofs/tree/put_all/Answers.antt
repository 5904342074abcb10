use Rattle.pb_normal.proofs.Common.{arith, take, take-append-drop}
use Rattle.pb_normal.proofs.lemmas.terms.{KeyedTerms.Putting-fits, KeyedTerms.Putting-next, KeyedTerms.Putting-cancels, Merging.positive-read, Merging.no_entry}
use Rattle.pb_normal.proofs.tree.put_all.Goals as goal

pub put-requires-clause-positive : goal.put-requires-clause-positive
put-requires-clause-positive c = positive-read 0 (take c.terms.i c.args.list.now) c.args.list.now c.terms.i no_entry _ (rw take-append-drop c.requires.list_rising) (omega arith) (c.get-term.ensures.read no_entry)

pub put-requires-clause-fits : goal.put-requires-clause-fits
put-requires-clause-fits c =
    Putting-fits _ c.args.list.now _ c.terms.i _ _ no_entry c.get-term.result c.terms.invariant.2 (omega arith) (c.get-term.ensures.read no_entry) c.requires.fits

pub overflow_add-cancelled : goal.overflow_add-cancelled
overflow_add-cancelled c = omega (arith, Putting-cancels _ c.args.list.now _ _ c.terms.i _ _ _ no_entry c.get-term.result c.terms.invariant.2 (omega arith) (c.get-term.ensures.read no_entry) c.in_ok-cancelled.ensures.adds c.requires.fits)

pub terms-preserved : goal.terms-preserved
terms-preserved c =
    (c.in_ok-cancelled.ensures.keyed, c.in_ok-cancelled.ensures.rising, Putting-next _ c.args.list.now _ _ c.terms.i _ _ no_entry c.get-term.result c.terms.invariant.2 (omega arith) (c.get-term.ensures.read no_entry) c.in_ok-cancelled.ensures.adds)
