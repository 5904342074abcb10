use Rattle.pb_normal.proofs.Common.{append_assoc, arith, map_more, refl}
use Rattle.pb_normal.proofs.terms.code.append_decoded.Goals as goal

pub codes-preserved : goal.codes-preserved
codes-preserved g c =
    let more = map_more g.T.Coded.term c.args.codes.now c.codes.i c.index-codes-i.result (omega arith) in
    rw (c.in_ok-push.ensures.items, c.entry.ensures, more, ← c.index-codes-i.is, c.codes.invariant, append_assoc) refl
