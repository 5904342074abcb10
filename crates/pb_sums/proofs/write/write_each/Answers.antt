use Rattle.pb_sums.proofs.Common.{ℕ, arith, List, refl, subst, sym, part_broke, part_then, part_wrote, writes_nothing, Wrote}
use Rattle.pb_sums.proofs.lemmas.values.Written.{further_none, further_more, further_at}
use Rattle.pb_sums.proofs.write.write_each.Goals as goal

pub loop-term-init : goal.loop-term-init
loop-term-init g c = subst (λ (z : List ℕ). Wrote g.S.Sink.contents g.S.Sink.faults c.args.out.now z c.args.out.now) (sym further_none) (writes_nothing g.S.Sink.contents g.S.Sink.faults c.args.out.now)

pub returns-in_err-write_further_term : goal.returns-in_err-write_further_term
returns-in_err-write_further_term g c =
    part_then g.S.Sink.contents g.S.Sink.faults _ _ _ _ _ _ _ (further_at c.args.terms.now c.loop-term.term-index c.term-item.result (omega arith)) c.loop-term.invariant
    (part_broke g.S.Sink.contents g.S.Sink.faults _ _ _ _ _ _ refl c.from_residual.ensures.0 (rw c.term-item.is at c.in_err-write_further_term.ensures))

pub loop-term-preserved : goal.loop-term-preserved
loop-term-preserved g c =
    part_wrote g.S.Sink.contents g.S.Sink.faults _ _ _ _ _ _ (further_more c.args.terms.now c.loop-term.term-index c.term-item.result (omega arith)) c.loop-term.invariant
    (rw c.term-item.is at c.in_ok-write_further_term.ensures)
