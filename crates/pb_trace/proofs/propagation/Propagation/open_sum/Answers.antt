use Rattle.pb_normal.proofs.lemmas.terms.{Maps.total-le-each, Merging.total-drop}
use Rattle.pb_trace.proofs.Common.{ap, arith, no_entry, each, total, free_by}
use Rattle.pb_trace.proofs.propagation.Propagation.open_sum.Goals as goal

pub overflow_add-sum : goal.overflow_add-sum
overflow_add-sum c =
    let free = free_by c.args.self.now.values.items in
    let all = total-le-each free c.terms-terms.result.now in
    let rest = total-drop free c.terms-terms.result.now c.terms.i no_entry c.get-entry.result (omega arith) (c.get-entry.ensures.read no_entry) in
    omega (arith, c.terms.invariant, all, rest, c.open_part-sum.ensures, ap (total each) c.terms-terms.ensures.terms, c.terms-terms.ensures.normal.size_in)

pub terms-preserved : goal.terms-preserved
terms-preserved c =
    let free = free_by c.args.self.now.values.items in
    let rest = total-drop free c.terms-terms.result.now c.terms.i no_entry c.get-entry.result (omega arith) (c.get-entry.ensures.read no_entry) in
    omega (arith, c.terms.invariant, rest, c.open_part-sum.ensures)
