use Rattle.pb_opb.proofs.Common.{arith, refl, part_broke, part_then, part_wrote}
use Rattle.pb_opb.proofs.lemmas.instances.Spelled.{comments_more, comments_at}
use Rattle.pb_opb.proofs.write.write_comments.Goals as goal

pub returns-in_err-write_comment_line : goal.returns-in_err-write_comment_line
returns-in_err-write_comment_line g c =
    part_then g.S.Sink.contents g.S.Sink.faults _ _ _ _ _ _ _ (comments_at c.args.comments.now c.loop-comment.comment-index c.comment-item.result (omega arith)) c.loop-comment.invariant
    (part_broke g.S.Sink.contents g.S.Sink.faults _ _ _ _ _ _ refl c.from_residual.ensures.0 (rw c.comment-item.is at c.in_err-write_comment_line.ensures))

pub loop-comment-preserved : goal.loop-comment-preserved
loop-comment-preserved g c =
    part_wrote g.S.Sink.contents g.S.Sink.faults _ _ _ _ _ _ (comments_more c.args.comments.now c.loop-comment.comment-index c.comment-item.result (omega arith)) c.loop-comment.invariant
    (rw c.comment-item.is at c.in_ok-write_comment_line.ensures)
