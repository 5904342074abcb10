use Rattle.pb_proof.proofs.Common.{ℕ, arith, List, refl, subst, sym, part_broke, part_then, part_wrote, writes_nothing, Wrote}
use Rattle.pb_proof.proofs.lemmas.Texts.{ended_none, ended_more, ended_at}
use Rattle.pb_proof.proofs.write.write_steps.Goals as goal

pub loop-step-init : goal.loop-step-init
loop-step-init g c = subst (λ (z : List ℕ). Wrote g.S.Sink.contents g.S.Sink.faults c.args.out.now z c.args.out.now) (sym ended_none) (writes_nothing g.S.Sink.contents g.S.Sink.faults c.args.out.now)

pub returns-in_err-write_line : goal.returns-in_err-write_line
returns-in_err-write_line g c =
    part_then g.S.Sink.contents g.S.Sink.faults _ _ _ _ _ _ _ (ended_at c.args.steps.now c.loop-step.step-index c.step-item.result (omega arith)) c.loop-step.invariant
    (part_broke g.S.Sink.contents g.S.Sink.faults _ _ _ _ _ _ refl c.from_residual.ensures.0 (rw c.step-item.is at c.in_err-write_line.ensures))

pub loop-step-preserved : goal.loop-step-preserved
loop-step-preserved g c =
    part_wrote g.S.Sink.contents g.S.Sink.faults _ _ _ _ _ _ (ended_more c.args.steps.now c.loop-step.step-index c.step-item.result (omega arith)) c.loop-step.invariant
    (rw c.step-item.is at c.in_ok-write_line.ensures)
