use Rattle.pb_sums.proofs.{Common.arith, Common.take_rest, Common.part_broke, Common.part_then, lemmas.values.Written.sum_parts}
use Rattle.pb_sums.proofs.write.write_sum.Goals as goal

pub returns-in_err-write_term-in-len1-up : goal.returns-in_err-write_term-in-len1-up
returns-in_err-write_term-in-len1-up g c =
    part_broke g.S.Sink.contents g.S.Sink.faults _ _ _ _ _ _ (sum_parts c.args.terms.now c.first-item.result (omega arith)) c.from_residual.ensures.0
    (rw c.first-item.is at c.in_err-write_term-in-len1-up.ensures)

pub returns-in_ok-write_term-in-len1-up : goal.returns-in_ok-write_term-in-len1-up
returns-in_ok-write_term-in-len1-up g c =
    part_then g.S.Sink.contents g.S.Sink.faults _ _ _ _ _ _ _ (sum_parts c.args.terms.now c.first-item.result (omega arith))
    (rw c.first-item.is at c.in_ok-write_term-in-len1-up.ensures) (rw (take_rest c.args.terms.now 1) at c.write_further.ensures)
