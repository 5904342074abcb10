use Rattle.pb_tool.proofs.Common.{ℕ, ◌∙◌, [], ap, List, Option, unwrap_or, unwrap_or-slice_get}
use Rattle.pb_tool.proofs.commands.check.proof.copied_name.Goals as goal

pub returns-in-None : goal.returns-in-None
returns-in-None c =
    c.new.ensures.bytes ∙ (ap (λ (o : Option (List ℕ)). unwrap_or o []) c.in-None.ensures ∙ unwrap_or-slice_get c.args.checker.now.replay.names c.args.number [])
