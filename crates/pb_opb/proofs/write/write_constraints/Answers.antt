use Rattle.pb_opb.proofs.Common.{◌++◌, ◌∷◌, arith, refl, linear_bytes, part_broke, part_then, part_wrote, comment_events, led_lines}
use Rattle.pb_opb.proofs.lemmas.instances.Spelled.{constraint_turn, constraint_done}
use Rattle.pb_opb.proofs.write.write_constraints.Goals as goal

pub returns-in_err-write_comments : goal.returns-in_err-write_comments
returns-in_err-write_comments g c =
    part_then g.S.Sink.contents g.S.Sink.faults _ _ _ _ _ _ _ (constraint_turn _ c.loop-index.invariant.0 c.args.first c.loop-index.index c.count_due.result c.loop-index.rest.now c.split_at.result.0.now c.split_at.result.1.now c.args.constraints.now c.index-constraints-index.result (omega arith) c.count_due.ensures.count c.split_at.ensures.front c.split_at.ensures.back c.index-constraints-index.is c.loop-index.invariant.1) c.loop-index.invariant.2
    (part_broke g.S.Sink.contents g.S.Sink.faults _ _ _ _ _ _ refl c.from_residual.ensures.0 c.in_err-write_comments.ensures)

pub returns-in_err-write_line : goal.returns-in_err-write_line
returns-in_err-write_line g c =
    part_then g.S.Sink.contents g.S.Sink.faults _ _ _ _ _ _ _ (constraint_turn _ c.loop-index.invariant.0 c.args.first c.loop-index.index c.count_due.result c.loop-index.rest.now c.split_at.result.0.now c.split_at.result.1.now c.args.constraints.now c.index-constraints-index.result (omega arith) c.count_due.ensures.count c.split_at.ensures.front c.split_at.ensures.back c.index-constraints-index.is c.loop-index.invariant.1) c.loop-index.invariant.2
    (part_then g.S.Sink.contents g.S.Sink.faults _ _ _ _ _ _ _ refl c.in_ok-write_comments.ensures
    (part_broke g.S.Sink.contents g.S.Sink.faults _ _ _ _ _ _ refl c.from_residual-in_err-write_line.ensures.0 c.in_err-write_line.ensures))

pub loop-index-preserved : goal.loop-index-preserved
loop-index-preserved g c = (
  c.loop-index.invariant.0 ++ (led_lines (comment_events c.split_at.result.0.now) ++ (10 ∷ linear_bytes c.index-constraints-index.result)),
  constraint_done _ c.loop-index.invariant.0 (led_lines (comment_events c.split_at.result.0.now)) (10 ∷ linear_bytes c.index-constraints-index.result) _
      (constraint_turn _ c.loop-index.invariant.0 c.args.first c.loop-index.index c.count_due.result c.loop-index.rest.now c.split_at.result.0.now c.split_at.result.1.now c.args.constraints.now c.index-constraints-index.result (omega arith) c.count_due.ensures.count c.split_at.ensures.front c.split_at.ensures.back c.index-constraints-index.is c.loop-index.invariant.1),
  part_wrote g.S.Sink.contents g.S.Sink.faults _ _ _ _ _ _ refl c.loop-index.invariant.2 (part_wrote g.S.Sink.contents g.S.Sink.faults _ _ _ _ _ _ refl c.in_ok-write_comments.ensures c.in_ok-write_line.ensures),
)
