use Rattle.pb_normal.proofs.{Common.◌*◌, Common.arith, Common.refl, Common.Entry, Common.with_coefficient, Common.map_more, lemmas.terms.Merging.no_entry}
use Rattle.pb_normal.proofs.rules.multiplied_list.Goals as goal

pub terms-preserved : goal.terms-preserved
terms-preserved g c =
    rw (c.in_ok-push.ensures.items, c.at-t.ensures no_entry, map_more (λ (t : Entry). with_coefficient t (t.coefficient * c.args.k)) (g.L.Listed.entries c.args.terms.now) c.terms.i no_entry (omega arith), c.terms.invariant) refl

pub overflow_mul-t : goal.overflow_mul-t
overflow_mul-t g c = rw (c.at-t.ensures no_entry) (omega (arith, c.requires.fits c.terms.i no_entry (omega arith)))
