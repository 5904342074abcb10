use Rattle.pb_normal.proofs.Common.{◌<◌, arith, div_ceil, length, Entry, with_coefficient, map_over_more}
use Rattle.pb_normal.proofs.rules.divide_all.Goals as goal

pub terms-preserved : goal.terms-preserved
terms-preserved c =
    let lt : c.terms.i < length c.args.terms.now.items = omega (arith, c.terms-test.true, c.len-i-end.ensures, c.args.terms.now.ok.0) in
    rw c.divided_term.ensures (map_over_more (λ (t : Entry). with_coefficient t (div_ceil t.coefficient c.args.k)) c.args.terms.now.items c.terms.terms.items c.terms.i c.index-t.result.now lt c.terms.invariant c.index-t.ensures)
