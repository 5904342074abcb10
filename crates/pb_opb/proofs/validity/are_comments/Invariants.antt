use Rattle.pb_opb.proofs.Common.{◌↔◌, drop, AreComments}
use Rattle.pb_opb.proofs.validity.are_comments.Given as goal

-- all meet the rules if the rest do
abbrev pub invariant-loop-comment : goal.invariant-loop-comment
invariant-loop-comment l = AreComments 0 l.statements l.comments ↔ AreComments l.least l.statements (drop l.comment-index l.comments)
