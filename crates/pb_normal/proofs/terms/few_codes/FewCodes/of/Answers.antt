use Rattle.pb_normal.proofs.Common.{◌<◌, arith, length, map-append, refl, rules, take_all, take_more, take_more_set, decoded}
use Rattle.pb_normal.proofs.lemmas.terms.Merging.{no_entry}
use Rattle.pb_normal.proofs.terms.few_codes.FewCodes.of.Goals as goal

pub terms-preserved : goal.terms-preserved
terms-preserved c =
    let room : c.terms.i < length c.terms.codes = omega (arith, c.terms.invariant.0) in
    let more = take_more c.args.terms.now c.terms.i no_entry (omega arith) in
    (search rules, rw (take_more_set c.terms.codes c.terms.i c.of.result room, more, map-append decoded, c.of.ensures, c.terms.invariant.1) refl)

pub returns : goal.returns
returns c = grind (arith, take_all, c.terms.invariant.1)
