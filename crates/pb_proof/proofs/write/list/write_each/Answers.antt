use Rattle.pb_proof.proofs.Common.{ℕ, arith, List, refl, subst, sym, part_broke, part_then, part_wrote, writes_nothing, Wrote}
use Rattle.pb_proof.proofs.lemmas.Texts.{listed_none, listed_more, listed_at}
use Rattle.pb_proof.proofs.write.list.write_each.Goals as goal

pub loop-item-init : goal.loop-item-init
loop-item-init g c = subst (λ (z : List ℕ). Wrote g.S.Sink.contents g.S.Sink.faults c.args.out.now z c.args.out.now) (sym (listed_none g.T.ListItem.line)) (writes_nothing g.S.Sink.contents g.S.Sink.faults c.args.out.now)

pub returns-in_err-write_next : goal.returns-in_err-write_next
returns-in_err-write_next g c =
    part_then g.S.Sink.contents g.S.Sink.faults _ _ _ _ _ _ _ (listed_at g.T.ListItem.line c.args.items.now c.loop-item.item-index c.item-item.result (omega arith)) c.loop-item.invariant
    (part_broke g.S.Sink.contents g.S.Sink.faults _ _ _ _ _ _ refl c.from_residual.ensures.0 (rw c.item-item.is at c.in_err-write_next.ensures))

pub loop-item-preserved : goal.loop-item-preserved
loop-item-preserved g c =
    part_wrote g.S.Sink.contents g.S.Sink.faults _ _ _ _ _ _ (listed_more g.T.ListItem.line c.args.items.now c.loop-item.item-index c.item-item.result (omega arith)) c.loop-item.invariant
    (rw c.item-item.is at c.in_ok-write_next.ensures)
