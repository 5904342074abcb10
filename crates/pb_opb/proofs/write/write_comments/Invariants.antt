use Rattle.pb_opb.proofs.Common.{take, Wrote, comment_events, led_lines}
use Rattle.pb_opb.proofs.write.write_comments.Given as goal

abbrev pub invariant-loop-comment : goal.invariant-loop-comment
invariant-loop-comment g l =
    Wrote g.S.Sink.contents g.S.Sink.faults l.initial.out (led_lines (comment_events (take l.comment-index l.comments))) l.out
