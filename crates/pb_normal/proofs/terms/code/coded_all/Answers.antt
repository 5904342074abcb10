use Rattle.pb_normal.proofs.{Common.arith, Common.map-append, Common.refl, Common.take_more, lemmas.terms.Merging.no_entry}
use Rattle.pb_normal.proofs.terms.code.coded_all.Goals as goal

pub terms-preserved : goal.terms-preserved
terms-preserved g c =
    let more = take_more c.args.terms.now c.terms.i no_entry (omega arith) in
    rw (c.in_ok-push.ensures.items, more, map-append g.T.Coded.term, c.of.ensures, c.terms.invariant) refl
